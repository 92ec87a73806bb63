-- The two lists of samples that are held by the code.
-- Assumes nothing.
use Rattle.std.specs.Prelude.{List, ℤ}
use Rattle.samples.specs.declared.listed.Samples as held

abbrev pub parts_of : held.Samples → List ℤ × List ℤ
parts_of s = (s.east.now, s.north.now)
