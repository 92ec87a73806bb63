use Rattle.samples.specs.Sides.{seen}
use Rattle.samples.specs.Scans.{Passed}
use Rattle.round.specs.Tops.{as_scaled, reaches}
use Rattle.round.proofs.tops.reach.Given as goal

abbrev pub invariant-loop-i : goal.invariant-loop-i
invariant-loop-i l = Passed (reaches (seen l.side) (as_scaled l.k) l.top) l.list l.i
