-- The first i words are written, and the rest is as it was.
use Rattle.std.proofs.Common.{◌≡◌, ◌++◌, length, take, drop}
use Rattle.samples.proofs.words.write.Given as goal

abbrev pub invariant-loop-i : goal.invariant-loop-i
invariant-loop-i l = (l.output ≡ take l.i l.res ++ drop l.i l.initial.output) × (length l.output ≡ length l.initial.output)
