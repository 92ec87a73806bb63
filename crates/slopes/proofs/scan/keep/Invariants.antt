use Rattle.slopes.specs.Brackets.{Keeping}
use Rattle.slopes.proofs.scan.keep.Given as goal

-- of the first i slopes those that pass stand from place m on, and from slope i on the n are as they came
abbrev pub invariant-loop-i : goal.invariant-loop-i
invariant-loop-i g l = Keeping g.test l.n l.m l.fn.w l.w l.i l.kept
