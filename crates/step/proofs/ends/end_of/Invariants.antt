use Rattle.samples.specs.Sides.{size, seen}
use Rattle.step.specs.Ends.{Scanned}
use Rattle.step.proofs.ends.end_of.Given as goal

abbrev pub invariant-loop-y : goal.invariant-loop-y
invariant-loop-y l = Scanned (seen l.fn.s) l.fn.right (size l.fn.s) l.y l.x
