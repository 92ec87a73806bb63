-- The last of n corners of the merge stands at the places that are reached. The measure is the sides that are left.
use Rattle.std.specs.Prelude.{suc, ◌+◌, ◌-◌, ◌≤◌}
use Rattle.laws_sums.specs.MergePlaces.{Stands}
use Rattle.sum.specs.Corners.{corners_of, PairOf}
use Rattle.sum.proofs.follow.Together.count.Given as goal

abbrev pub invariant-loop-at : goal.invariant-loop-at
invariant-loop-at l =
    PairOf l.self l.at.first l.at.second
    × Stands (corners_of l.self.first) (corners_of l.self.second) (l.n - 1) l.at.first l.at.second
    × (1 ≤ l.n)
    × (l.n ≤ suc (l.at.first + l.at.second))

abbrev pub decreases-loop-at : goal.decreases-loop-at
decreases-loop-at l = l.self.first.over.sides + l.self.second.over.sides - (l.at.first + l.at.second)
