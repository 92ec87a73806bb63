-- What the rules take for granted of lists: the items that pass a test, the first of them, the best item, the items in order.
-- Assumes nothing.
use Rattle.std.specs.Prelude.{Bool, true, false, cond, ◌||◌, ◌&&◌, List, [], ◌∷◌, ◌++◌, ℕ, zero, suc, length, drop, replicate}
use Rattle.std.proofs.Math.Option.{Option, none, some}

module _ {A : Type 0} where
  abbrev pub consIf : Bool → A → List A → List A
  consIf true x xs = x ∷ xs
  consIf false x xs = xs

  -- the items that pass the test, in list order
  unfoldable pub those : (A → Bool) → List A → List A
  those test [] = []
  those test (x ∷ xs) = consIf (test x) x (those test xs)

  -- some item passes the test
  unfoldable pub some_of : (A → Bool) → List A → Bool
  some_of test [] = false
  some_of test (x ∷ xs) = test x || some_of test xs

  -- every item passes the test
  unfoldable pub all_of : (A → Bool) → List A → Bool
  all_of test [] = true
  all_of test (x ∷ xs) = test x && all_of test xs

  -- the first place, from 0, whose item passes the test; the list's length where none does
  unfoldable pub first_place : (A → Bool) → List A → ℕ
  first_place test [] = zero
  first_place test (x ∷ xs) = cond (test x) zero (suc (first_place test xs))

  -- the best of x and the items after it, the earliest where several are: y takes the place of x only if it beats it
  unfoldable pub best_from : (A → A → Bool) → A → List A → A
  best_from beats x [] = x
  best_from beats x (y ∷ ys) = best_from beats (cond (beats y x) y x) ys

  unfoldable pub best : (A → A → Bool) → List A → Option A
  best beats [] = none
  best beats (x ∷ xs) = some (best_from beats x xs)

  -- the items in rising order, repeats kept
  unfoldable pub insert : (A → A → Bool) → A → List A → List A
  insert le x [] = x ∷ []
  insert le x (y ∷ ys) = cond (le x y) (x ∷ y ∷ ys) (y ∷ insert le x ys)

  unfoldable pub sorted : (A → A → Bool) → List A → List A
  sorted le [] = []
  sorted le (x ∷ xs) = insert le x (sorted le xs)

  -- the two lists have the same items in the same order, by a test of two items
  unfoldable pub alike : (A → A → Bool) → List A → List A → Bool
  alike same [] [] = true
  alike same [] (y ∷ ys) = false
  alike same (x ∷ xs) [] = false
  alike same (x ∷ xs) (y ∷ ys) = same x y && alike same xs ys

  -- the result at the front of a lent list, whose content beyond it stays
  abbrev pub written : List A → List A → List A
  written result old = result ++ drop (length result) old

-- all of a lent list as zeros
abbrev pub zeros : List ℕ → List ℕ
zeros old = replicate (length old) zero
