-- The keys that stand for 32-bit signed numbers in scratch: the number plus 2 to the 31, which keeps the order.
-- Assumes nothing.
use Rattle.std.specs.Prelude.{ℕ, ◌^◌, ◌<◌, ℤ, pos, ◌+ℤ◌, ◌-ℤ◌, nat_abs}
use Rattle.std.specs.Int.Signed.{mag}
use mathlib.Core.List.{List, Memᴰ}

unfoldable pub key_of : ℤ → ℕ
key_of x = nat_abs (x +ℤ pos (2 ^ 31))

-- the number that a key stands for
unfoldable pub number_of : ℕ → ℤ
number_of k = pos k -ℤ pos (2 ^ 31)

-- every number is a 32-bit signed one
abbrev pub Words : List ℤ → Type 0
Words xs = (x : ℤ) → Memᴰ x xs → mag x < 2 ^ 31
