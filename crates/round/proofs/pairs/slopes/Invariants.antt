use Rattle.std.specs.Prelude.{◌*◌}
use Rattle.samples.specs.Sides.{seen}
use Rattle.round.proofs.PairSlopes.{Sloping}
use Rattle.round.proofs.pairs.slopes.Given as goal

abbrev pub invariant-loop-i : goal.invariant-loop-i
invariant-loop-i l = Sloping (seen l.side) l.initial.w l.t l.w l.q (2 * l.i)
