use Rattle.std.proofs.Common.{length}
use Rattle.laws_rounds.specs.WholeList.{numbers}
use Rattle.samples.specs.Positions.{east_of}
use Rattle.step.specs.NumberLists.{between}
use Rattle.step.proofs.Passing.{Passing}
use Rattle.step.proofs.lists.inner.Given as goal

abbrev pub invariant-loop-x : goal.invariant-loop-x
invariant-loop-x l = Passing (λ y. between l.fn.from l.fn.to (east_of l.fn.e y)) (numbers (length l.fn.e)) l.fn.w 2 l.w l.x l.k
