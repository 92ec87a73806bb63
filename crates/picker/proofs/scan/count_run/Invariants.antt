-- The counts of the keys passed, with those of the keys to come, are the counts of all.
use Rattle.std.proofs.Common.{drop}
use Rattle.picker.proofs.Passes.{Counting}
use Rattle.picker.proofs.scan.count_run.Given as goal

abbrev pub invariant-loop-x : goal.invariant-loop-x
invariant-loop-x l = Counting l.keys (drop l.x-index l.keys) l.p l.below l.above
