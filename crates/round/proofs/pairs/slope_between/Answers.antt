use Rattle.std.specs.Prelude.{◌≡◌, Bool, true, false, ℤ, pos, ◌-ℤ◌, ◌≤ℤ◌, ◌<ℤ◌}
use Rattle.std.specs.Int.{w32}
use Rattle.std.proofs.Common.{sym, ◌∙◌}
use mathlib.Core.Path.{subst₂}
use mathlib.Core.Logic.{⊎_elim}
use lib.Signed.{lt_z}
use Rattle.whole.specs.Linear.{order, difference}
use Rattle.whole.specs.Laws.{≤ℤ_split}
use Rattle.whole.specs.Solver.{num, ◌⊕◌, ◌⊖◌, ⊝◌}
use Rattle.whole.specs.Fits.{word, lt-is}
use Rattle.rules.specs.Streams.{Stream}
use Rattle.samples.specs.Positions.{Near}
use Rattle.round.specs.Slopes.{PairSlope}
use Rattle.round.proofs.RoundWords.{parts, two_leaves, way, climb, unsigned_is}
use Rattle.round.proofs.PairSlope.{slope_west, slope-east, no_slope}
use Rattle.round.proofs.pairs.slope_between.Goals as goal

-- the sign of the run says which lies west
module _ {p q : Stream} (hp : Near p) (hq : Near q) where
  abbrev run : ℤ
  run = word w32 (parts p q) way

  run-sign : {b : Bool} → lt_z run (pos 0) ≡ b → lt_z (q.east -ℤ p.east) (pos 0) ≡ b
  run-sign e = sym (lt-is w32 (two_leaves hp hq) way (num (pos 0)) tt tt) ∙ e

  second-west : lt_z run (pos 0) ≡ true → q.east <ℤ p.east
  second-west e = let s = run-sign e in omega (order, difference q.east p.east)

  second-east : lt_z run (pos 0) ≡ false → p.east ≤ℤ q.east
  second-east e = let s = run-sign e in omega (order, difference q.east p.east)

pub returns-then-run-lt0 : goal.returns-then-run-lt0
returns-then-run-lt0 c =
    let h = c.requires in
    let l = two_leaves h.0 h.1 in
    subst₂ (PairSlope _ _) (sym (unsigned_is l (num (pos 2000000) ⊖ climb) tt)) (sym (unsigned_is l (⊝ way) tt))
    (slope_west h.0 h.1 (second-west h.0 h.1 c.if-run-lt0.true))

pub returns : goal.returns
returns c =
    let h = c.requires in
    let l = two_leaves h.0 h.1 in
    subst₂ (PairSlope _ _) (sym (unsigned_is l (num (pos 2000000) ⊕ climb) tt)) (sym (unsigned_is l way tt))
    (⊎_elim (slope-east h.0 h.1) (no_slope h.0 h.1) (≤ℤ_split (second-east h.0 h.1 c.if-run-lt0.false)))
