-- A pick among n keys measures 2n + 1, and the pivot finder among n keys 2n.
use Rattle.std.proofs.Common.{◌+◌, ◌*◌, length}
use Rattle.picker.proofs.+pick_key_pivot.Given as goal

abbrev pub decreases-pick_key : goal.decreases-pick_key
decreases-pick_key l = 2 * length l.keys.now + 1

abbrev pub decreases-pivot : goal.decreases-pivot
decreases-pivot l = 2 * length l.keys.now
