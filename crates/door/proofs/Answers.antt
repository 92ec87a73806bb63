-- How what one reading gives and what the rest give make what all give: a bad reading decides, and a taken one goes before the rest.
-- Assumes nothing.
use Rattle.std.proofs.Common.{◌≡◌, ℕ, suc, ◌+◌, ◌<◌, ◌≤◌, List, ◌∷◌, length, get_or, drop, ℤ, refl, ap, ◌∙◌, subst, inl, inr, add-one, drop_of_length-le, drop-cons}
use Rattle.std.specs.Prelude.{Option, Some, None, Result, Ok, Err}
use lib.Ieee.{Float, nan}
use Rattle.rules.specs.Streams.{Stream}
use Rattle.samples.specs.Answers.{number_of}
use Rattle.rules.specs.Door.{PartIs, whole, no, no_float, part, Readings, and_then, readings}
use Rattle.door.specs.declared.DoorRefusal.{DoorRefusal}
use Rattle.door.specs.DoorAnswers.{bad_with, bad_by, reading_at, whole_of, wholes, readings_as}

-- ---- one reading, of the parts p and q, before the rest

bad_first : (i : ℕ) (p q : PartIs) (b rest : Readings) → inr b ≡ reading_at p q i → b ≡ and_then i p q rest
bad_first i (no number) q b rest e = cc
bad_first i (no_float number x) q b rest e = cc
bad_first i (whole x) (no number) b rest e = cc
bad_first i (whole x) (no_float number y) b rest e = cc
bad_first i (whole x) (whole y) b rest e = cc

module _ {A : Type 0} (i : ℕ) (xs ys : List ℤ) where
  whole_first : (x y : ℤ) (r : Result A DoorRefusal) → readings_as (x ∷ xs) (y ∷ ys) r ≡ and_then i (whole x) (whole y) (readings_as xs ys r)
  whole_first x y (Ok v) = refl
  whole_first x y (Err r) = go r.float
    where
      go : (o : Option Float) → let b = bad_with (number_of r.refusal.reason) r.refusal.place o in b ≡ and_then i (whole x) (whole y) b
      go None = refl
      go (Some z) = refl

  taken_first : (p q : PartIs) (s : Stream) (r : Result A DoorRefusal) → inl s ≡ reading_at p q i →
      readings_as (whole_of p ∷ xs) (whole_of q ∷ ys) r ≡ and_then i p q (readings_as xs ys r)
  taken_first (no number) q s r e = cc
  taken_first (no_float number x) q s r e = cc
  taken_first (whole x) (no number) s r e = cc
  taken_first (whole x) (no_float number y) s r e = cc
  taken_first (whole x) (whole y) s r e = whole_first x y r

-- ---- the readings from a place on

module _ (es ns : List Float) where
  -- the answer is right of the readings from place i on
  abbrev pub Right : {A : Type 0} → ℕ → Result A DoorRefusal → Type 0
  Right i r = readings_as (wholes (drop i es)) (wholes (drop i ns)) r ≡ readings i (drop i es) (drop i ns)

  pub right_at_end : {A : Type 0} (i : ℕ) (x : A) → length es ≤ i → length ns ≤ i → Right i (Ok x)
  unfolding wholes readings
  right_at_end i x h k = rw (drop_of_length-le es h, drop_of_length-le ns k)

  module _ (i : ℕ) (h : i < length es) (k : i < length ns) where
    pub right_if_bad : (A : Type 0) (r : DoorRefusal) → inr (bad_by r) ≡ reading_at (part (get_or es i nan)) (part (get_or ns i nan)) i → Right {A = A} i (Err r)
    unfolding wholes readings
    right_if_bad A r e =
        rw (drop-cons es i nan, drop-cons ns i nan)
        (bad_first i (part (get_or es i nan)) (part (get_or ns i nan)) (bad_by r) (readings (suc i) (drop (suc i) es) (drop (suc i) ns)) e)

    pub right_if_taken : {A : Type 0} (s : Stream) → inl s ≡ reading_at (part (get_or es i nan)) (part (get_or ns i nan)) i →
        (r : Result A DoorRefusal) → Right (i + 1) r → Right i r
    unfolding wholes readings
    right_if_taken {A} s e r rest =
        rw (drop-cons es i nan, drop-cons ns i nan)
        (taken_first i (wholes (drop (suc i) es)) (wholes (drop (suc i) ns)) (part (get_or es i nan)) (part (get_or ns i nan)) s r e
        ∙ ap (and_then i (part (get_or es i nan)) (part (get_or ns i nan))) (subst (λ (j : ℕ). Right j r) (add-one i) rest))
