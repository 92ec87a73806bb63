use Rattle.std.specs.Prelude.{◌*◌}
use Rattle.slopes.specs.Fractions.{as_slope}
use Rattle.samples.specs.Sides.{seen}
use Rattle.round.specs.Keeping.{towards}
use Rattle.round.proofs.Fronting.{Fronting}
use Rattle.round.proofs.keep.keep.Given as goal

abbrev pub invariant-loop-i : goal.invariant-loop-i
invariant-loop-i l = Fronting (seen l.side) (towards l.west (as_slope l.k)) l.initial.w l.w l.out (2 * l.i)
