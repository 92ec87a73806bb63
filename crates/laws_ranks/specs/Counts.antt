-- How many items of a list pass a test, and how that goes over the list's parts. Lists with the same counts by every test have the same items, in any
-- order. Assumes nothing.
use Rattle.std.specs.Prelude.{◌≡◌, ◌⊎◌, Bool, not, ◌&&◌}
use Rattle.std.proofs.Math.Path.{refl, ap, ap₂}
use Rattle.std.proofs.Common.{sym, ◌∙◌, subst, inl, inr}
use Rattle.std.proofs.Math.Bool.{true, false}
use mathlib.Core.List.Memᴰ
use mathlib.Core.List.{List, [], ◌∷◌, ◌++◌, map, Memᴰ}
use Prim.Native.Nat.{ℕ, suc, ◌+◌, ◌≤◌, zero-le}
use native.Mathlib.Omega.{arith}
use Rattle.std.proofs.Math.Dec.{T}
use Rattle.std.proofs.Math.ListN.{length}
use Rattle.rules.specs.Lists.{those, consIf}

-- a test as 0 or 1
abbrev pub bit : Bool → ℕ
bit true = 1
bit false = 0

pub bit_le : (b c : Bool) → (T b → T c) → bit b ≤ bit c
bit_le true true h = omega arith
bit_le true false h = absurd (h tt)
bit_le false c h = zero-le

pub bit_yes : (b : Bool) → T b → bit b ≡ 1
bit_yes true t = refl
bit_yes false t = absurd t

pub bit_no : (b : Bool) → T (not b) → bit b ≡ 0
bit_no true t = absurd t
bit_no false t = refl

-- two tests that pass for the same items have the same answers
pub same_test : (b c : Bool) → (T b → T c) → (T c → T b) → b ≡ c
same_test true true h k = refl
same_test true false h k = absurd (h tt)
same_test false true h k = absurd (k tt)
same_test false false h k = refl

module _ {A : Type 0} where
  -- how many items pass the test
  unfoldable pub count : (A → Bool) → List A → ℕ
  count test [] = 0
  count test (x ∷ xs) = bit (test x) + count test xs

  abbrev pub both : (A → Bool) → (A → Bool) → A → Bool
  both f g x = f x && g x

  abbrev pub not_by : (A → Bool) → A → Bool
  not_by f x = not (f x)

  pub count_none_of : (f : A → Bool) → count f [] ≡ 0
  unfolding count
  count_none_of f = refl

  pub count-cons : (f : A → Bool) (x : A) (xs : List A) → count f (x ∷ xs) ≡ bit (f x) + count f xs
  unfolding count
  count-cons f x xs = refl

  -- of the list's items, what passes f passes g
  pub count-mono : (f g : A → Bool) (xs : List A) → ((x : A) → Memᴰ x xs → T (f x) → T (g x)) → count f xs ≤ count g xs
  unfolding count
  count-mono f g [] h = zero-le
  count-mono f g (x ∷ xs) h =
      let ih = count-mono f g xs (λ y m. h y (Memᴰ.tail m)) in
      omega (arith, bit_le (f x) (g x) (h x (Memᴰ.head refl)))

  pub count_same : (f g : A → Bool) (xs : List A) → ((x : A) → Memᴰ x xs → f x ≡ g x) → count f xs ≡ count g xs
  unfolding count
  count_same f g [] h = refl
  count_same f g (x ∷ xs) h =
      ap₂ (λ (b : Bool) (n : ℕ). bit b + n) (h x (Memᴰ.head refl)) (count_same f g xs (λ y m. h y (Memᴰ.tail m)))

  pub count-le-length : (f : A → Bool) (xs : List A) → count f xs ≤ length xs
  unfolding count
  count-le-length f [] = zero-le
  count-le-length f (x ∷ xs) = let ih = count-le-length f xs in omega (arith, bit_le (f x) true (λ t. tt))

  pub count-all : (f : A → Bool) (xs : List A) → ((x : A) → Memᴰ x xs → T (f x)) → count f xs ≡ length xs
  unfolding count
  count-all f [] h = refl
  count-all f (x ∷ xs) h =
      let ih = count-all f xs (λ y m. h y (Memᴰ.tail m)) in
      omega (arith, bit_yes (f x) (h x (Memᴰ.head refl)))

  pub count-nothing : (f : A → Bool) (xs : List A) → ((x : A) → Memᴰ x xs → T (not (f x))) → count f xs ≡ 0
  unfolding count
  count-nothing f [] h = refl
  count-nothing f (x ∷ xs) h =
      let ih = count-nothing f xs (λ y m. h y (Memᴰ.tail m)) in
      omega (arith, bit_no (f x) (h x (Memᴰ.head refl)))

  pub count-append : (f : A → Bool) (xs ys : List A) → count f (xs ++ ys) ≡ count f xs + count f ys
  unfolding count
  count-append f [] ys = omega arith
  count-append f (x ∷ xs) ys = let ih = count-append f xs ys in omega arith

  -- the items that pass and those that do not
  pub count-not : (f : A → Bool) (xs : List A) → count f xs + count (not_by f) xs ≡ length xs
  unfolding count
  count-not f [] = refl
  count-not f (x ∷ xs) = go (f x) (count-not f xs)
    where
      go : (b : Bool) → count f xs + count (not_by f) xs ≡ length xs → bit b + count f xs + (bit (not b) + count (not_by f) xs) ≡ suc (length xs)
      go true e = omega arith
      go false e = omega arith

  pub length-those : (f : A → Bool) (xs : List A) → length (those f xs) ≡ count f xs
  unfolding count those
  length-those f [] = refl
  length-those f (x ∷ xs) = go (f x) (length-those f xs)
    where
      go : (b : Bool) → length (those f xs) ≡ count f xs → length (consIf b x (those f xs)) ≡ bit b + count f xs
      go true e = omega arith
      go false e = omega arith

  -- of the items that pass f, those that pass g
  pub count-those : (g f : A → Bool) (xs : List A) → count g (those f xs) ≡ count (both f g) xs
  unfolding count those
  count-those g f [] = refl
  count-those g f (x ∷ xs) = go (f x) (count-those g f xs)
    where
      go : (b : Bool) → count g (those f xs) ≡ count (both f g) xs → count g (consIf b x (those f xs)) ≡ bit (b && g x) + count (both f g) xs
      go true e = omega arith
      go false e = omega arith

  -- the items that pass g, by whether they pass f
  pub count_split : (g f : A → Bool) (xs : List A) → count g (those f xs) + count g (those (not_by f) xs) ≡ count g xs
  unfolding count those
  count_split g f [] = refl
  count_split g f (x ∷ xs) = go (f x) (count_split g f xs)
    where
      go : (b : Bool) → count g (those f xs) + count g (those (not_by f) xs) ≡ count g xs
          → count g (consIf b x (those f xs)) + count g (consIf (not b) x (those (not_by f) xs)) ≡ bit (g x) + count g xs
      go true e = omega arith
      go false e = omega arith

  pub those-append : (f : A → Bool) (xs ys : List A) → those f (xs ++ ys) ≡ those f xs ++ those f ys
  unfolding those
  those-append f [] ys = refl
  those-append f (x ∷ xs) ys = go (f x) (those-append f xs ys)
    where
      go : (b : Bool) → those f (xs ++ ys) ≡ those f xs ++ those f ys → consIf b x (those f (xs ++ ys)) ≡ consIf b x (those f xs) ++ those f ys
      go true e = ap (λ (l : List A). x ∷ l) e
      go false e = e

  -- an item that is one of those is an item, and passes
  pub of_those : (f : A → Bool) (xs : List A) {x : A} → Memᴰ x (those f xs) → Memᴰ x xs × T (f x)
  unfolding those
  of_those f [] m = absurd (Memᴰ.not-nil m)
  of_those f (y ∷ ys) {x} m = go (f y) refl (λ k. of_those f ys k) m
    where
      later : Memᴰ x ys × T (f x) → Memᴰ x (y ∷ ys) × T (f x)
      later p = (Memᴰ.tail p.0, p.1)

      step : T (f y) → (Memᴰ x (those f ys) → Memᴰ x ys × T (f x)) → (x ≡ y) ⊎ Memᴰ x (those f ys) → Memᴰ x (y ∷ ys) × T (f x)
      step t ih (inl e) = (Memᴰ.head e, subst (λ (z : A). T (f z)) (sym e) t)
      step t ih (inr k) = later (ih k)

      go : (b : Bool) → f y ≡ b → (Memᴰ x (those f ys) → Memᴰ x ys × T (f x))
          → Memᴰ x (consIf b y (those f ys))
          → Memᴰ x (y ∷ ys) × T (f x)
      go true e ih k = step (subst T (sym e) tt) ih (Memᴰ.cases_cons k)
      go false e ih k = later (ih k)

  -- an item that passes is counted
  pub counted : (f : A → Bool) (xs : List A) {x : A} → Memᴰ x xs → T (f x) → 1 ≤ count f xs
  unfolding count
  counted f [] m t = absurd (Memᴰ.not-nil m)
  counted f (y ∷ ys) {x} m t = go (λ k. counted f ys k t) (Memᴰ.cases_cons m)
    where
      go : (Memᴰ x ys → 1 ≤ count f ys) → (x ≡ y) ⊎ Memᴰ x ys → 1 ≤ bit (f y) + count f ys
      go ih (inl e) = omega (arith, bit_yes (f y) (subst (λ (z : A). T (f z)) e t))
      go ih (inr k) = omega (arith, ih k)

  -- the two lists have the same items, in any order
  pub record SameItems (xs ys : List A) : Type 0 where
    pub counts : (f : A → Bool) → count f xs ≡ count f ys

  pub same_items_length : {xs ys : List A} → SameItems xs ys → length xs ≡ length ys
  same_items_length {xs} {ys} h = sym (count-all (λ x. true) xs (λ x m. tt)) ∙ h.counts (λ x. true) ∙ count-all (λ x. true) ys (λ x m. tt)

pub count_map : {A B : Type 0} (f : B → Bool) (g : A → B) (xs : List A) → count f (map g xs) ≡ count (λ x. f (g x)) xs
unfolding count
count_map f g [] = refl
count_map f g (x ∷ xs) = ap (λ (n : ℕ). bit (f (g x)) + n) (count_map f g xs)
