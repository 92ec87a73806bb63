-- What two rings that are held by the code are: their corners, as they are or mirrored.
-- Assumes nothing.
use Rattle.std.specs.Prelude.{Bool, List, ℕ}
use Rattle.rules.specs.Streams.{Stream}
use Rattle.walk.specs.TwoRings.{both, count, corner_at, listed_at}
use Rattle.walk.specs.declared.corners.Rings as held

abbrev pub size : held.Rings → ℕ
size r = count r.east.now r.east2.now

abbrev pub all : held.Rings → List Stream
all r = both r.east.now r.north.now r.east2.now r.north2.now

abbrev pub seen_at : held.Rings → Bool → ℕ → Stream
seen_at r lower k = corner_at r.east.now r.north.now r.east2.now r.north2.now lower k

abbrev pub listed_in : held.Rings → Bool → List ℕ → ℕ → Stream
listed_in r lower w i = listed_at r.east.now r.north.now r.east2.now r.north2.now lower w i
