-- Items of lists: tests as types, the first item that passes a test, lists kept in list order, and the best item as the first at its position.
-- Assumes nothing.
use Rattle.std.specs.Prelude.{◌≡◌, ◌⊎◌, Bool, not, T}
use Rattle.std.proofs.Math.Path.{refl, ap, subst}
use Rattle.std.proofs.Common.{sym, ◌∙◌, ⊎_elim}
use Rattle.std.proofs.Math.Logic.{inl, inr}
use Rattle.std.proofs.Math.Bool.{true, false, cond}
use Rattle.std.proofs.lemmas.Bool.{false≢true}
use Rattle.std.proofs.Math.Option.{Option, none, some, some-injective, none-ne-some}
use mathlib.Core.List.Memᴰ
use mathlib.Core.List.{List, [], ◌∷◌, ◌++◌, Memᴰ, Sublistᴰ}
use Rattle.rules.specs.Lists.{best_from}
use Rattle.rules.specs.Streams.{Stream, same}
use Rattle.laws_outline.specs.ListLaws.{Ranks, best_from_best, is_no, not-both}
use Rattle.laws_outline.specs.SamePosition.{same_equal, equal_same}

-- ---- tests

-- what a test answered, as a type, and back
pub T_true : {b : Bool} → b ≡ true → T b
T_true e = subst T (sym e) tt

pub false_T : {b : Bool} → T (not b) → b ≡ false
false_T {b = true} t = absurd t
false_T {b = false} t = refl

pub not-not : (b : Bool) → not (not b) ≡ b
not-not true = refl
not-not false = refl

-- ---- the first item that passes a test

module _ {A : Type 0} where
  unfoldable pub first_of : (A → Bool) → List A → Option A
  first_of f [] = none
  first_of f (x ∷ xs) = cond (f x) (some x) (first_of f xs)

  abbrev pub or_else : Option A → Option A → Option A
  or_else none o = o
  or_else (some x) o = some x

  pub first_of_append : (f : A → Bool) (xs ys : List A) → first_of f (xs ++ ys) ≡ or_else (first_of f xs) (first_of f ys)
  unfolding first_of
  first_of_append f [] ys = refl
  first_of_append f (x ∷ xs) ys = go (f x) (first_of_append f xs ys)
    where
      go : (b : Bool) → first_of f (xs ++ ys) ≡ or_else (first_of f xs) (first_of f ys)
          → cond b (some x) (first_of f (xs ++ ys)) ≡ or_else (cond b (some x) (first_of f xs)) (first_of f ys)
      go true e = refl
      go false e = e

  -- it stands in the list and passes
  pub first_of_in : (f : A → Bool) (xs : List A) {x : A} → first_of f xs ≡ some x → Memᴰ x xs × (f x ≡ true)
  unfolding first_of
  first_of_in f [] e = absurd (none-ne-some _ e)
  first_of_in f (y ∷ ys) {x} e = go (f y) refl e (λ h. first_of_in f ys h)
    where
      go : (b : Bool) → f y ≡ b → cond b (some y) (first_of f ys) ≡ some x
          → (first_of f ys ≡ some x → Memᴰ x ys × (f x ≡ true))
          → Memᴰ x (y ∷ ys) × (f x ≡ true)
      go true q e r = let h = some-injective y x e in (Memᴰ.head (sym h), ap f (sym h) ∙ q)
      go false q e r = let h = r e in (Memᴰ.tail h.0, h.1)

  pub first_of_some : (f : A → Bool) {x : A} {xs : List A} → Memᴰ x xs → f x ≡ true → (y : A) × (first_of f xs ≡ some y)
  unfolding first_of
  first_of_some f (Memᴰ.head {x = y} {xs} h) e = go (f y) (sym (ap f h) ∙ e)
    where
      go : (b : Bool) → b ≡ true → (z : A) × (cond b (some y) (first_of f xs) ≡ some z)
      go true q = (y, refl)
      go false q = absurd (false≢true q)
  first_of_some f (Memᴰ.tail {x = y} {xs} m) e = go (f y) (first_of_some f m e)
    where
      go : (b : Bool) → (z : A) × (first_of f xs ≡ some z) → (z : A) × (cond b (some y) (first_of f xs) ≡ some z)
      go true r = (y, refl)
      go false r = r

  -- of two items: the first may go if it fails, and the second if it passes only where the first does
  pub first_goes : (f : A → Bool) (x y : A) → f x ≡ false → first_of f (y ∷ []) ≡ first_of f (x ∷ y ∷ [])
  unfolding first_of
  first_goes f x y e = rw e

  pub second_goes : (f : A → Bool) (x y : A) → (f y ≡ true → f x ≡ true) → first_of f (x ∷ []) ≡ first_of f (x ∷ y ∷ [])
  unfolding first_of
  second_goes f x y h = go (f x) (f y) h
    where
      go : (b c : Bool) → (c ≡ true → b ≡ true) → cond b (some x) none ≡ cond b (some x) (cond c (some y) none)
      go true c h = refl
      go false true h = absurd (false≢true (h refl))
      go false false h = refl

  -- ---- lists kept in list order

  pub kept_in : {xs ys : List A} {x : A} → Sublistᴰ xs ys → Memᴰ x xs → Memᴰ x ys
  kept_in Sublistᴰ.slnil m = m
  kept_in (Sublistᴰ.cons s) m = Memᴰ.tail (kept_in s m)
  kept_in (Sublistᴰ.cons-cons e s) m = ⊎_elim (λ h. Memᴰ.head (h ∙ e)) (λ n. Memᴰ.tail (kept_in s n)) (Memᴰ.cases_cons m)

-- ---- the best item, by a test of positions, is the first at its position

module _ {A : Type 0} (at : A → Stream) (beats : Stream → Stream → Bool) (o : Ranks (λ (x : A). Unit {0}) (λ x y. beats (at x) (at y))) where
  abbrev by_position : A → A → Bool
  by_position x y = beats (at x) (at y)

  -- it is the first of all, or beats that
  best-or-beats : (c : A) (ys : List A) → (best_from by_position c ys ≡ c) ⊎ (by_position (best_from by_position c ys) c ≡ true)
  unfolding best_from
  best-or-beats c [] = inl refl
  best-or-beats c (y ∷ ys) = go (by_position y c) refl (λ c'. best-or-beats c' ys)
    where
      go : (b : Bool) → by_position y c ≡ b
          → ((c' : A) → (best_from by_position c' ys ≡ c') ⊎ (by_position (best_from by_position c' ys) c' ≡ true))
          → (best_from by_position (cond b y c) ys ≡ c) ⊎ (by_position (best_from by_position (cond b y c) ys) c ≡ true)
      go true q r =
          inr
          (⊎_elim
          (λ e. subst (λ (z : A). by_position z c ≡ true) (sym e) q)
          (λ e. o.in_turn (best_from by_position y ys) y c tt tt tt e q)
          (r y))
      go false q r = r c

  pub best-first : (c : A) (ys : List A) → first_of (λ x. same (at (best_from by_position c ys)) (at x)) (c ∷ ys) ≡ some (best_from by_position c ys)
  unfolding best_from first_of
  best-first c [] = rw (equal_same {p = at c} refl)
  best-first c (y ∷ ys) = go (by_position y c) refl (λ c'. best-first c' ys)
    where
      best_of : A → A
      best_of c' = best_from by_position c' ys

      test : A → A → Bool
      test c' x = same (at (best_of c')) (at x)

      -- y does not beat c, which beats what is not at its position
      not-here : test c c ≡ false → by_position y c ≡ false → test c y ≡ true → ⊥
      not-here e q h =
          ⊎_elim
          (λ k. not-both (equal_same (ap at k)) e)
          (λ k. not-both (subst (λ (p : Stream). beats p (at c) ≡ true) (same_equal (at (best_of c)) (at y) h) k) q)
          (best-or-beats c ys)

      after : (b : Bool) → test c c ≡ b → by_position y c ≡ false → cond b (some c) (first_of (test c) ys) ≡ some (best_of c)
          → cond b (some c) (cond (test c y) (some y) (first_of (test c) ys)) ≡ some (best_of c)
      after true e q r = r
      after false e q r = rw (is_no (test c y) (not-here e q)) r

      -- y beats c, and not the best
      beaten : by_position y c ≡ true → test y c ≡ true → ⊥
      beaten q h =
          not-both
          (subst (λ (p : Stream). beats (at y) p ≡ true) (sym (same_equal (at (best_of y)) (at c) h)) q)
          ((best_from_best o y ys (λ z m. tt)).unbeaten y (Memᴰ.head refl))

      go : (b : Bool) → by_position y c ≡ b → ((c' : A) → first_of (test c') (c' ∷ ys) ≡ some (best_of c'))
          → first_of (test (cond b y c)) (c ∷ y ∷ ys) ≡ some (best_of (cond b y c))
      go true q r = rw (is_no (test y c) (beaten q)) (r y)
      go false q r = after (test c c) refl q (r c)
