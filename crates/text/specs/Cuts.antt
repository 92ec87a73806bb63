-- A text cut at a byte, by the first place that has the byte; and the first place in a text's front.
-- Assumes nothing.
use Rattle.std.specs.Prelude.{◌≡◌, Bool, Some, None, eqb, ltb, get_or, take, drop}
use Rattle.std.specs.List.{position, position_or_len}
use Rattle.std.proofs.Math.Path.{refl}
use Rattle.std.proofs.Common.{ap, ◌∙◌, add-one, length-drop, drop-cons, drop-drop, ltb-true, ltb-false}
use Rattle.std.proofs.lemmas.List.Recursion.{is_position_or_len}
use Rattle.std.proofs.Math.Bool.{true, false, cond}
use mathlib.Core.List.{List, [], ◌∷◌}
use Prim.Native.Nat.{ℕ, zero, suc, ◌+◌, ◌-◌, ◌≤◌, ◌<◌}
use native.Mathlib.Omega.{arith}
use Rattle.std.proofs.Math.ListN.{length}
use borrow.Author.Tests.{eq-eqb, ne_eqb}
use Rattle.rules.specs.Lists.{first_place}
use Rattle.rules.specs.Program.{unbroken, broken, longer, cut_at}

abbrev pub is : ℕ → ℕ → Bool
is x b = eqb b x

module _ {A : Type 0} (test : A → Bool) where
  pub first-place-within : (xs : List A) → first_place test xs ≤ length xs
  unfolding first_place
  first-place-within [] = omega arith
  first-place-within (x ∷ xs) = go (test x) (first-place-within xs)
    where
      go : (t : Bool) → first_place test xs ≤ length xs → cond t zero (suc (first_place test xs)) ≤ suc (length xs)
      go true h = omega arith
      go false h = omega arith

module _ (x : ℕ) where
  -- the byte stands somewhere
  pub cut_found : (bs : List ℕ) → first_place (is x) bs < length bs →
      cut_at x bs ≡ broken (take (first_place (is x) bs) bs) (drop (suc (first_place (is x) bs)) bs)
  unfolding first_place cut_at
  cut_found [] h = absurd (omega arith)
  cut_found (b ∷ bs) h = go (eqb b x) h (cut_found bs)
    where
      k : ℕ
      k = first_place (is x) bs

      go : (t : Bool) → cond t zero (suc k) < suc (length bs) →
          (k < length bs → cut_at x bs ≡ broken (take k bs) (drop (suc k) bs)) →
          cond t (broken [] bs) (longer b (cut_at x bs)) ≡ broken (take (cond t zero (suc k)) (b ∷ bs)) (drop (suc (cond t zero (suc k))) (b ∷ bs))
      go true l r = refl
      go false l r = ap (longer b) (r (omega arith))

  -- the byte stands nowhere
  pub cut_none : (bs : List ℕ) → first_place (is x) bs ≡ length bs → cut_at x bs ≡ unbroken bs
  unfolding first_place cut_at
  cut_none [] h = refl
  cut_none (b ∷ bs) h = go (eqb b x) h (cut_none bs)
    where
      k : ℕ
      k = first_place (is x) bs

      go : (t : Bool) → cond t zero (suc k) ≡ suc (length bs) → (k ≡ length bs → cut_at x bs ≡ unbroken bs) →
          cond t (broken [] bs) (longer b (cut_at x bs)) ≡ unbroken (b ∷ bs)
      go true l r = absurd (omega arith)
      go false l r = ap (longer b) (r (omega arith))

  -- the same from a place of a text on, where `end` is the first place from it on that has the byte
  module _ (bs : List ℕ) (at end : ℕ) (first : end ≡ at + first_place (is x) (drop at bs)) where
    pub cut-at-end : end < length bs → cut_at x (drop at bs) ≡ broken (take (end - at) (drop at bs)) (drop (end + 1) bs)
    cut-at-end h =
        let l = length-drop at bs in
        let k : end - at ≡ first_place (is x) (drop at bs) = omega arith in
        let e : at + suc (first_place (is x) (drop at bs)) ≡ end + 1 = omega arith in
        cut_found (drop at bs) (omega arith) ∙ rw (k, drop-drop, e) refl

    pub cut_nowhere : at ≤ length bs → end ≡ length bs → cut_at x (drop at bs) ≡ unbroken (drop at bs)
    cut_nowhere h e = cut_none (drop at bs) (omega (arith, length-drop at bs))

  -- looking for the byte from place to place
  module _ (bs : List ℕ) (i : ℕ) (inside : i < length bs) where
    pub first-here : get_or bs i 0 ≡ x → first_place (is x) (drop i bs) ≡ 0
    unfolding first_place
    first-here e = rw (drop-cons bs i 0 inside, eq-eqb (get_or bs i 0) x e) refl

    pub first_later : (get_or bs i 0 ≡ x → ⊥) → first_place (is x) (drop i bs) ≡ suc (first_place (is x) (drop (i + 1) bs))
    unfolding first_place
    first_later e = rw (drop-cons bs i 0 inside, ne_eqb (get_or bs i 0) x e, add-one) refl

  -- the same by what a search for the byte finds
  first-place-is : (bs : List ℕ) → first_place (is x) bs ≡ position_or_len (is x) bs
  unfolding first_place
  first-place-is bs = is_position_or_len (first_place (is x)) (is x) refl (λ b bs. ap (λ (n : ℕ). cond (is x b) 0 n) (omega arith)) bs

  pub cut-at-place : (bs : List ℕ) (k : ℕ) → position (is x) bs ≡ Some k → cut_at x bs ≡ broken (take k bs) (drop (k + 1) bs)
  cut-at-place bs k e = go (ltb (position_or_len (is x) bs) (length bs)) refl e
    where
      go : (t : Bool) → ltb (position_or_len (is x) bs) (length bs) ≡ t → cond t (Some (position_or_len (is x) bs)) None ≡ Some k →
          cut_at x bs ≡ broken (take k bs) (drop (k + 1) bs)
      go true h e =
          let p : position_or_len (is x) bs ≡ k = cc in
          let q : first_place (is x) bs ≡ k = cc (first-place-is bs) in
          rw (add-one, ← q) (cut_found bs (omega (arith, q, p, ltb-true (position_or_len (is x) bs) (length bs) h)))
      go false h e = let z : ◌≡◌ {A = ℕ} 0 1 = cc in absurd (omega arith)

  pub cut_without_place : (bs : List ℕ) → position (is x) bs ≡ None → cut_at x bs ≡ unbroken bs
  cut_without_place bs e = go (ltb (position_or_len (is x) bs) (length bs)) refl e
    where
      go : (t : Bool) → ltb (position_or_len (is x) bs) (length bs) ≡ t → cond t (Some (position_or_len (is x) bs)) None ≡ None →
          cut_at x bs ≡ unbroken bs
      go true h e = let z : ◌≡◌ {A = ℕ} 0 1 = cc in absurd (omega arith)
      go false h e =
          cut_none bs (omega (arith, first-place-within (is x) bs, first-place-is bs, ltb-false (position_or_len (is x) bs) (length bs) h))
