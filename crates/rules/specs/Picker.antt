-- "Rank r of n numbers, r from 1 to n, is the r-th smallest, repeats counted." One definition over the test of order, for numbers and for slopes.
-- Assumes nothing.
use Rattle.std.specs.Prelude.{Bool, List, ℕ, ◌-◌, ℤ, pos, get_or}
use Rattle.std.specs.Int.Signed.{le_z}
use Rattle.rules.specs.Lists.{sorted}

-- the r-th smallest by the test, and d where there is none
unfoldable pub ranked : {A : Type 0} → (A → A → Bool) → A → ℕ → List A → A
ranked le d r xs = get_or (sorted le xs) (r - 1) d

unfoldable pub rank : ℕ → List ℤ → ℤ
rank r xs = ranked le_z (pos 0) r xs
