use Rattle.std.proofs.Common.{◌+◌, ◌*◌}
use Rattle.slopes.proofs.+pick_pivot.Given as goal

-- twice the number of slopes, and one more for `pick`: a pivot is picked from at most half of them, and a step by a pivot leaves fewer
abbrev pub decreases-pick : goal.decreases-pick
decreases-pick l = 2 * l.n + 1

abbrev pub decreases-pivot : goal.decreases-pivot
decreases-pivot l = 2 * l.n
