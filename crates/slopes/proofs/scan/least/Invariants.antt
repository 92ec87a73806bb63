use Rattle.slopes.specs.ShortLists.{Lifting}
use Rattle.slopes.proofs.scan.least.Given as goal

-- p has the words of the least of the first i + 1, and the others stand at the front
abbrev pub invariant-loop-i : goal.invariant-loop-i
invariant-loop-i l = Lifting l.fn.w l.w l.i l.p
