-- `picker::keys::key` meets its contract: the number plus 2 to the 31 is neither below 0 nor above 32 bits.
-- Assumes nothing.
use Rattle.std.proofs.Common.{◌≡◌, ap, arith, ℤ, pos, ◌+ℤ◌, FitsSigned, w32, w64, to_z, of_z}
use Rattle.std.specs.Prelude.{nat_abs}
use Rattle.std.proofs.lemmas.Int.{ints}
use Rattle.picker.specs.Keys.{key_of}
use Rattle.picker.proofs.keys.key.Goals as goal

-- the number itself, at either width
read : (x : ℤ) → FitsSigned w32 x → to_z w64 (of_z w64 (to_z w64 (of_z w64 (to_z w32 (of_z w32 x))) +ℤ pos 2147483648)) ≡ x +ℤ pos 2147483648
read x h = omega (arith, ints)

pub returns : goal.returns
unfolding key_of
returns c = ap nat_abs (read c.args.x c.ranges.x)
