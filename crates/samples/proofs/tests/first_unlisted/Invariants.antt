use Rattle.std.proofs.Common.{leb}
use Rattle.samples.specs.Scans.{Passed}
use Rattle.samples.proofs.tests.first_unlisted.Given as goal

abbrev pub invariant-loop-i : goal.invariant-loop-i
invariant-loop-i l = Passed (λ x. leb l.count x) l.list l.i
