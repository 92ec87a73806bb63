use Rattle.std.proofs.Common.{◌≡◌, sym, ap, ap₂, ◌∙◌, arith, Bool, true, false, ◌&&◌, List, ◌<◌, length}
use Rattle.std.specs.Int.Signed.{lt_z}
use Rattle.rules.specs.Streams.{Stream, sample}
use Rattle.rules.specs.Chain.{leftmost}
use Rattle.rules.specs.Use.{envelope}
use Rattle.laws_neighbours.specs.Recognised.{recognised}
use Rattle.samples.specs.StreamWords.{read, held}
use Rattle.envelope.specs.CornersNear.{CornersNear, near_read}
use Rattle.envelope.specs.RoundTheRing.{round_from, few_pass, two_pass, more_pass}
use Rattle.envelope.proofs.test.is_envelope.Goals as goal

-- a ring of more than two corners, by the easts of the first two as they were read
module _ {xs : List Stream} (p : CornersNear xs) {s t : Stream} (e : s ≡ sample xs 0) (f : t ≡ sample xs 1) where
  easts : lt_z (read s.east) (read t.east) ≡ lt_z (sample xs 0).east (sample xs 1).east
  easts =
      ap₂ lt_z
      ((held (near_read p 0 e).east_near).same ∙ ap (λ (s : Stream). s.east) e)
      ((held (near_read p 1 f).east_near).same ∙ ap (λ (s : Stream). s.east) f)

  -- the answer is what the code found of the sides
  sides : {b : Bool} → lt_z (read s.east) (read t.east) ≡ b → 2 < length xs → (b && round_from xs 2) ≡ envelope xs
  sides h many = ap (λ (b : Bool). b && round_from xs 2) (sym h ∙ easts) ∙ sym (more_pass xs many) ∙ recognised xs

pub returns-then-n-lt2 : goal.returns-then-n-lt2
returns-then-n-lt2 g c =
    let xs = g.C.Corners.corners c.args.ring.now in
    sym (few_pass xs (omega arith)) ∙ recognised xs

pub returns-then-n-eq2 : goal.returns-then-n-eq2
returns-then-n-eq2 g c =
    let xs = g.C.Corners.corners c.args.ring.now in
    c.leftmost.ensures ∙
    (λ k. leftmost (c.corner-first.ensures k) (c.corner-second.ensures k)) ∙
    sym (two_pass xs (omega arith)) ∙
    recognised xs

pub returns-then-first-second : goal.returns-then-first-second
returns-then-first-second g c =
    c.goes_round.ensures ∙ sides c.requires c.corner-first.ensures c.corner-second.ensures {b = true} c.if-first-second.true (omega arith)

pub returns : goal.returns
returns g c = sides c.requires c.corner-first.ensures c.corner-second.ensures {b = false} c.if-first-second.false (omega arith)
