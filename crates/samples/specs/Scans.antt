-- A scan of a list for the first item that passes a test, and whether some item passes it.
-- Assumes nothing.
use Rattle.std.specs.Prelude.{◌≡◌, Bool, cond, ◌||◌, length, get_or, drop}
use Rattle.std.proofs.Math.Path.{refl, sym, ap, ap₂}
use Rattle.std.proofs.Common.{◌∙◌, not-suc-le-zero, le_of_suc-le-suc, add-zero, add-one, arith, drop_of_length-le, drop-cons}
use Rattle.std.proofs.Math.Bool.{true, false}
use mathlib.Core.List.{List, [], ◌∷◌}
use Prim.Native.Nat.{ℕ, zero, suc, ◌+◌, ◌≤◌, ◌<◌}
use Rattle.std.proofs.Math.Dec.{ltb}
use mir.Val.{bool_byte}
use borrow.Author.Tests.{lt-ltb, le-ltb}
use Rattle.rules.specs.Lists.{first_place, some_of}
use Rattle.laws_ranks.specs.Kept.{byte_most}
use Rattle.laws_outline.specs.ListLaws.{first_place_in, no_first_place}

or-true : (b : Bool) → (b || true) ≡ true
or-true true = refl
or-true false = refl

or-false : (b : Bool) → (b || false) ≡ b
or-false true = refl
or-false false = refl

or_assoc : (a b c : Bool) → ((a || b) || c) ≡ (a || (b || c))
or_assoc true b c = refl
or_assoc false b c = refl

module _ {A : Type 0} (test : A → Bool) where
  -- none of the first i items passes
  pub record Passed (xs : List A) (i : ℕ) : Type 0 where
    pub inside : i ≤ length xs
    pub rest : first_place test xs ≡ i + first_place test (drop i xs)

  pub passed_none : (xs : List A) → Passed xs 0
  passed_none xs = record { inside = omega arith; rest = omega arith }

  module _ (d : A) (xs : List A) (i : ℕ) (h : i < length xs) where
    next : first_place test (drop i xs) ≡ cond (test (get_or xs i d)) zero (suc (first_place test (drop (suc i) xs)))
    unfolding first_place
    next = ap (first_place test) (drop-cons xs i d h)

    pub passed_more : test (get_or xs i d) ≡ false → Passed xs i → Passed xs (i + 1)
    passed_more e p =
        let r = p.rest in
        let n : first_place test (drop i xs) ≡ suc (first_place test (drop (suc i) xs)) = rw e at next in
        record { inside = omega arith; rest = rw add-one (omega arith) }

    pub passed_here : test (get_or xs i d) ≡ true → Passed xs i → i ≡ first_place test xs
    passed_here e p = let r = p.rest in let n : first_place test (drop i xs) ≡ zero = rw e at next in omega arith

  drop_all : (i : ℕ) (xs : List A) → length xs ≤ i → first_place test (drop i xs) ≡ zero
  unfolding first_place
  drop_all zero [] h = refl
  drop_all zero (x ∷ xs) h = absurd (not-suc-le-zero h)
  drop_all (suc i) [] h = refl
  drop_all (suc i) (x ∷ xs) h = drop_all i xs (le_of_suc-le-suc h)

  pub passed_all : {xs : List A} {i : ℕ} → length xs ≤ i → Passed xs i → i ≡ first_place test xs
  passed_all {xs} {i} h p = let r = p.rest in omega (arith, drop_all i xs h)

  -- some item passes where the first place is inside
  pub some_by_place : (xs : List A) → some_of test xs ≡ ltb (first_place test xs) (length xs)
  some_by_place xs = go (some_of test xs) refl
    where
      go : (b : Bool) → some_of test xs ≡ b → b ≡ ltb (first_place test xs) (length xs)
      go true e = sym (lt-ltb (first_place test xs) (length xs) (first_place_in test xs e))
      go false e = sym (le-ltb (first_place test xs) (length xs) (omega (arith, no_first_place test xs e)))

  -- ---- whether some item passes, by a count: k of the first i items do
  pub record Seen (xs : List A) (i k : ℕ) : Type 0 where
    pub inside : i ≤ length xs
    pub few : k ≤ i
    pub some_so_far : (ltb 0 k || some_of test (drop i xs)) ≡ some_of test xs

  pub seen_none : (xs : List A) → Seen xs 0 0
  seen_none xs = record { inside = omega arith; few = omega arith; some_so_far = refl }

  pub seen_more : (d : A) {xs : List A} {i k : ℕ} (b : Bool) → i < length xs → b ≡ test (get_or xs i d) → Seen xs i k → Seen xs (i + 1) (k + bool_byte b)
  unfolding some_of
  seen_more d {xs} {i} {k} b h e s =
      let few = s.few in
      record {
        inside = omega arith;
        few = omega (arith, byte_most b);
        some_so_far =
            ap₂ (λ (p : Bool) (n : ℕ). p || some_of test (drop n xs)) (one_more b) (add-one i)
            ∙ or_assoc (ltb 0 k) b (some_of test (drop (suc i) xs))
            ∙ ap (λ (p : Bool). ltb 0 k || (p || some_of test (drop (suc i) xs))) e
            ∙ ap (λ (l : List A). ltb 0 k || some_of test l) (sym (drop-cons xs i d h))
            ∙ s.some_so_far;
      }
    where
      one_more : (b : Bool) → ltb 0 (k + bool_byte b) ≡ (ltb 0 k || b)
      one_more true = lt-ltb 0 (k + 1) (omega arith) ∙ sym (or-true (ltb 0 k))
      one_more false = ap (ltb 0) (add-zero k) ∙ sym (or-false (ltb 0 k))

  none_left : (i : ℕ) (xs : List A) → length xs ≤ i → some_of test (drop i xs) ≡ false
  unfolding some_of
  none_left i xs h = ap (some_of test) (drop_of_length-le xs h)

  pub seen_all : {xs : List A} {i k : ℕ} → length xs ≤ i → Seen xs i k → ltb 0 k ≡ some_of test xs
  seen_all {xs} {i} {k} h s = sym (or-false (ltb 0 k)) ∙ ap (λ (p : Bool). ltb 0 k || p) (sym (none_left i xs h)) ∙ s.some_so_far
