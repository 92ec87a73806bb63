use Rattle.std.proofs.Common.{◌≡◌, sym, ap, ◌∙◌, arith, Bool, ◌&&◌, List, ℕ, ◌+◌, ◌-◌, ◌≤◌, ◌<◌, length}
use Rattle.rules.specs.Streams.{Stream, sample}
use Rattle.laws_neighbours.specs.NeighbourTest.{turns, closes}
use Rattle.envelope.specs.CornersNear.{near_read}
use Rattle.envelope.specs.RoundTheRing.{round_from, round_more, round-end}
use Rattle.envelope.proofs.test.goes_round.Goals as goal

-- one turn of the loop, by what it found
went : (xs : List Stream) (i : ℕ) {b : Bool} {p q r : Stream} → 2 ≤ i → i < length xs → round_from xs 2 ≡ round_from xs i →
    p ≡ sample xs (i - 2) → q ≡ sample xs (i - 1) → r ≡ sample xs i → b ≡ turns p q r → round_from xs 2 ≡ (b && round_from xs (i + 1))
went xs i two h so p q r e =
    let same = e ∙ (λ k. turns (p k) (q k) (r k)) in
    so ∙ round_more xs i two h ∙ ap (λ (b : Bool). b && round_from xs (i + 1)) (sym same)

-- and the end of it
ended : (xs : List Stream) (n : ℕ) {b : Bool} {p q r : Stream} → length xs ≤ n → round_from xs 2 ≡ round_from xs n →
    p ≡ sample xs (n - 2) → q ≡ sample xs (n - 1) → r ≡ sample xs 0 → b ≡ closes p q r → b ≡ round_from xs 2
ended xs n h so p q r e = e ∙ (λ k. closes (p k) (q k) (r k)) ∙ sym (so ∙ round-end xs n h)

pub turns-requires : goal.turns-requires
turns-requires g c =
    let p = c.requires.0 in
    let i = c.loop-i.i in
    (near_read p (i - 2) c.corner.ensures, near_read p (i - 1) c.corner-in-loop-i.ensures, near_read p i c.corner-in-loop-i-2.ensures)

pub returns-then-not-turns : goal.returns-then-not-turns
returns-then-not-turns g c =
    sym
    (went (g.C.Corners.corners c.args.ring.now) c.loop-i.i (omega arith) (omega arith) c.loop-i.invariant
    c.corner.ensures c.corner-in-loop-i.ensures c.corner-in-loop-i-2.ensures c.if-not-turns.ensures)

pub loop-i-preserved : goal.loop-i-preserved
loop-i-preserved g c =
    went (g.C.Corners.corners c.args.ring.now) c.loop-i.i (omega arith) (omega arith) c.loop-i.invariant
    c.corner.ensures c.corner-in-loop-i.ensures c.corner-in-loop-i-2.ensures c.if-not-turns.ensures

pub closes-requires : goal.closes-requires
closes-requires g c =
    let p = c.requires.0 in
    let n = c.count-n.result in
    (near_read p (n - 2) c.corner-2.ensures, near_read p (n - 1) c.corner-3.ensures, near_read p 0 c.corner-4.ensures)

pub returns : goal.returns
returns g c =
    let xs = g.C.Corners.corners c.args.ring.now in
    let end : c.loop-i.i ≡ c.count-n.result = omega arith in
    ended xs c.count-n.result (omega arith) (c.loop-i.invariant ∙ ap (round_from xs) end)
    c.corner-2.ensures c.corner-3.ensures c.corner-4.ensures c.closes.ensures
