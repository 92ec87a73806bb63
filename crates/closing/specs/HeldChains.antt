-- Both chains of two rings that are held by the code, and the ring that they close to, by places in one list.
-- Assumes nothing.
use Rattle.std.specs.Prelude.{List, ℕ}
use Rattle.rules.specs.Streams.{Stream}
use Rattle.walk.specs.declared.corners.Rings as held
use Rattle.closing.specs.TwoChains.{upper_at, lower_at, ring_corner}

module _ (r : held.Rings) (w : List ℕ) (u : ℕ) where
  abbrev pub upper_in : ℕ → Stream
  upper_in = upper_at r.east.now r.north.now r.east2.now r.north2.now w u

  abbrev pub lower_in : ℕ → Stream
  lower_in = lower_at r.east.now r.north.now r.east2.now r.north2.now w u

  -- the ring's corner i, where the lower chain is kept up to hi
  abbrev pub corner_in : ℕ → ℕ → Stream
  corner_in hi i = ring_corner r.east.now r.north.now r.east2.now r.north2.now w u hi i
