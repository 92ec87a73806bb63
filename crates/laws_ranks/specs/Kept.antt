-- The items of a list that pass a test, kept at the front of another: a pass stores each item behind those that are kept, and adds its test to their number.
-- Assumes nothing.
use Rattle.std.specs.Prelude.{◌≡◌, Bool, true, false, ℕ, ◌+◌, ◌≤◌, ◌<◌, length, get_or, take, set}
use Rattle.std.proofs.Math.Path.{refl, sym, ap₂}
use Rattle.std.proofs.Common.{◌∙◌, le_refl, add-zero, add-one, arith, take-suc, take-suc-set}
use mathlib.Core.List.{List, [], ◌∷◌, ◌++◌, append-nil}
use Rattle.std.proofs.lemmas.List.{take-set-le}
use mir.Val.{bool_byte}
use Rattle.rules.specs.Lists.{those, consIf}
use Rattle.laws_ranks.specs.Counts.{bit, count, count-append, count-le-length, those-append}

-- a test cast to a number
pub byte_is : (b : Bool) → bool_byte b ≡ bit b
byte_is true = refl
byte_is false = refl

pub byte_most : (b : Bool) → bool_byte b ≤ 1
byte_most true = omega arith
byte_most false = omega arith

module _ {A : Type 0} where
  -- the first items and one more
  pub first_more : (d : A) (xs : List A) (i : ℕ) → i < length xs → take (i + 1) xs ≡ take i xs ++ (get_or xs i d ∷ [])
  first_more d xs i h = rw (add-one i) (take-suc xs i d h)

  pub count_more : (f : A → Bool) (xs : List A) (x : A) → count f (xs ++ (x ∷ [])) ≡ count f xs + bool_byte (f x)
  unfolding count
  count_more f xs x = omega (arith, count-append f xs (x ∷ []), byte_is (f x))

  -- an item stored behind k others, which counts where the test holds
  pub stored : (xs : List A) (k : ℕ) (x : A) (b : Bool) → k < length xs → take (k + bool_byte b) (set xs k x) ≡ take k xs ++ consIf b x []
  stored xs k x true h = rw (add-one k) (take-suc-set xs k x h)
  stored xs k x false h = rw (add-zero k, append-nil (take k xs)) (take-set-le k xs k x (le_refl k))

  -- the k items that pass the test lie at the front, in their order
  pub record Kept (f : A → Bool) (xs : List A) (k : ℕ) (now : List A) : Type 0 where
    pub number : k ≡ count f xs
    pub front : take k now ≡ those f xs

  pub kept_none : (f : A → Bool) (now : List A) → Kept f [] 0 now
  unfolding count those
  kept_none f now = record { number = refl; front = refl }

  module _ {f : A → Bool} {xs : List A} {k : ℕ} {now : List A} (t : Kept f xs k now) where
    pub kept_more : (x : A) (b : Bool) → b ≡ f x → k < length now → Kept f (xs ++ (x ∷ [])) (k + bool_byte b) (set now k x)
    unfolding those
    kept_more x b e room =
        record {
          number = ap₂ (λ (n : ℕ) (c : Bool). n + bool_byte c) t.number e ∙ sym (count_more f xs x);
          front =
              stored now k x b room
              ∙ ap₂ (λ (l : List A) (c : Bool). l ++ consIf c x []) t.front e
              ∙ sym (those-append f xs (x ∷ []));
        }

    pub kept-most : k ≤ length xs
    kept-most = omega (arith, t.number, count-le-length f xs)
