-- The middles of the groups so far are written.
use Rattle.std.proofs.Common.{◌≡◌, leb, take}
use mathlib.Core.List.{map}
use Rattle.laws_ranks.specs.Middles.{middle, fives}
use Rattle.picker.proofs.five.middles.Given as goal

abbrev pub invariant-loop-i : goal.invariant-loop-i
invariant-loop-i l = take l.i l.out ≡ map (middle leb 0) (fives 0 l.g l.keys l.i)
