use Rattle.slopes.specs.Fractions.{as_slope}
use Rattle.slopes.specs.PassLaws.{Parting}
use Rattle.slopes.proofs.scan.part.Given as goal

-- of the first i slopes those below p stand at the front and those above it behind the n, and from slope i on the n are as they came
abbrev pub invariant-loop-i : goal.invariant-loop-i
invariant-loop-i l = Parting l.n l.fn.w l.w (as_slope l.p) l.i l.below l.above
