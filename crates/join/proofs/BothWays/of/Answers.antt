-- The ways over a ring's halves; a ring without corners has none.
use Rattle.std.specs.Prelude.{refl}
use Rattle.std.proofs.Common.{rules}
use Rattle.join.specs.RingWays.{no_corner, two_halves}
use Rattle.join.proofs.BothWays.of.Goals as goal

pub returns-then-is_empty : goal.returns-then-is_empty
returns-then-is_empty c = record { at_start = refl; found = no_corner (search rules) }

pub returns : goal.returns
returns c = record { at_start = refl; found = two_halves c.scan-h.ensures }
