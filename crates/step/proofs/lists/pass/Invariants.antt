use Rattle.std.proofs.Common.{take}
use Rattle.samples.specs.Positions.{east_of}
use Rattle.step.specs.NumberLists.{past}
use Rattle.step.proofs.Passing.{Passing}
use Rattle.step.proofs.lists.pass.Given as goal

abbrev pub invariant-loop-i : goal.invariant-loop-i
invariant-loop-i l = Passing (λ x. past l.fn.west l.fn.a (east_of l.fn.e x)) (take l.fn.t l.fn.w) l.fn.w l.fn.to l.w l.i l.k
