-- `picker::keys::number` meets its contract: a key less 2 to the 31 is a 32-bit signed number.
-- Assumes nothing.
use Rattle.std.proofs.Common.{arith}
use Rattle.std.proofs.lemmas.Int.{ints}
use Rattle.picker.specs.Keys.{number_of}
use Rattle.picker.proofs.keys.number.Goals as goal

pub returns : goal.returns
unfolding number_of
returns c = omega (arith, ints)
