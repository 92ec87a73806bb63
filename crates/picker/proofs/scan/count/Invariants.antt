-- The counts of the keys in the runs passed, with those in the runs to come, are the counts of all.
use Rattle.std.proofs.Common.{◌≡◌}
use Rattle.std.specs.Slice.Iter.{chunks_rest, chunks_size}
use Rattle.picker.proofs.Passes.{Counting}
use Rattle.picker.proofs.scan.count.Given as goal

abbrev pub invariant-loop-run : goal.invariant-loop-run
invariant-loop-run l =
    goal.iterator-loop-run.can_next l.run-iterator
    × goal.iterator-loop-run.is_finite l.run-iterator
    × (chunks_size l.run-iterator ≡ 65536)
    × Counting l.keys (chunks_rest l.run-iterator) l.p l.below l.above
