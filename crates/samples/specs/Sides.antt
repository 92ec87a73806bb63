-- What a side that is held by the code sees.
-- Assumes nothing.
use Rattle.std.specs.Prelude.{List, ℕ, ℤ, length}
use Rattle.rules.specs.Streams.{Stream}
use Rattle.samples.specs.Positions.{at}
use Rattle.samples.specs.declared.sides.Side as held

-- the two lists of its samples
abbrev pub easts : held.Side → List ℤ
easts s = s.samples.east.now

abbrev pub norths : held.Side → List ℤ
norths s = s.samples.north.now

-- how many samples there are
abbrev pub size : held.Side → ℕ
size s = length (easts s)

-- the position of sample x on this side
abbrev pub seen : held.Side → ℕ → Stream
seen s = at (easts s) (norths s) s.lower
