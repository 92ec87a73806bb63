-- The next corner stands at the places that are reached, k corners are written, and the rest is as it was.
use Rattle.std.specs.Prelude.{◌≡◌, List, ◌++◌, ℕ, ◌+◌, ℤ, length, drop}
use Rattle.rules.specs.Streams.{Stream, sample}
use Rattle.laws_stack.specs.Places.{listed}
use Rattle.walk.specs.StreamTests.{east_of, north_of}
use Rattle.sum.specs.Stretches.{Reached}
use Rattle.sum.specs.Corners.{corners_of, merged_of, PairOf}
use Rattle.sum.proofs.follow.Together.put.Given as goal

-- k corners from lo on are written at the front
abbrev Put : (Stream → ℤ) → List Stream → ℕ → ℕ → List ℤ → List ℤ → Type 0
Put part M lo k old new = (new ≡ listed (λ x. part (sample M (lo + x))) k ++ drop k old) × (length new ≡ length old)

abbrev pub invariant-loop-k : goal.invariant-loop-k
invariant-loop-k l =
    PairOf l.self l.at.first l.at.second
    × Reached (corners_of l.self.first) (corners_of l.self.second) (l.lo + l.k) l.at.first l.at.second
    × Put east_of (merged_of l.self) l.lo l.k l.initial.out_east l.out_east
    × Put north_of (merged_of l.self) l.lo l.k l.initial.out_north l.out_north
