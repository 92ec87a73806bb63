-- The corners of what is followed. Assumes nothing.
use Rattle.std.specs.Prelude.{List, ℕ}
use Rattle.rules.specs.Streams.{Stream}
use Rattle.sum.specs.Stretches.{Both, Pair, stretch_of, merged}
use Rattle.sum.specs.declared.follow.Followed.{Followed}
use Rattle.sum.specs.declared.follow.Together.{Together}

-- those of one stretch
abbrev pub corners_of : Followed → List Stream
corners_of f = stretch_of f.ring.east.now f.ring.north.now f.over

-- those of both merged
abbrev pub merged_of : Together → List Stream
merged_of t = merged t.first.ring.east.now t.first.ring.north.now t.second.ring.east.now t.second.ring.north.now t.first.over t.second.over

-- places i and j of both
abbrev pub PairOf : Together → ℕ → ℕ → Type 0
PairOf t i j = Pair t.first.over t.second.over i j

pub both_of : (t : Together) → Both t.first.ring.east.now t.first.ring.north.now t.second.ring.east.now t.second.ring.north.now t.first.over t.second.over
both_of t = record { first = t.first.on; second = t.second.on; few = t.few }
