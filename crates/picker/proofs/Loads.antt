-- What the loading of numbers keeps: the keys of the numbers so far at the front, and that these numbers are 32-bit signed ones.
-- Assumes nothing.
use mathlib.Core.Path.{◌≡◌, sym, ap, ap₂, ◌∙◌, subst⁻¹}
use mathlib.Core.Logic.{◌⊎◌, inl, inr}
use mathlib.Core.List.Memᴰ
use mathlib.Core.List.{List, [], ◌∷◌, ◌++◌, map, map-append, Memᴰ}
use Prim.Native.Nat.{ℕ, ◌+◌, ◌^◌, ◌≤◌, ◌<◌}
use native.Mathlib.Numerals.{add-one}
use native.Mathlib.Omega.{arith}
use lib.IntN.{ℤ, pos}
use lib.Signed.{mag}
use lib.ListN.{length, get_or, take, set}
use lib.Seq.{take-suc-set}
use Rattle.laws_ranks.specs.Kept.{first_more}
use Rattle.picker.specs.Keys.{key_of, Words}

pub record Loading (xs : List ℤ) (now : List ℕ) (i : ℕ) : Type 0 where
  pub keys : take i now ≡ map key_of (take i xs)
  pub words : Words (take i xs)

module _ (xs : List ℤ) where
  pub loading_more : {now : List ℕ} {i v : ℕ}
      → i < length xs
      → length xs ≤ length now
      → mag (get_or xs i (pos 0)) < 2 ^ 31
      → v ≡ key_of (get_or xs i (pos 0))
      → Loading xs now i
      → Loading xs (set now i v) (i + 1)
  loading_more {now} {i} {v} h room small e t =
      record {
        keys =
            ap (λ (n : ℕ). take n (set now i v)) (add-one i)
            ∙ take-suc-set now i v (omega arith)
            ∙ ap₂ (λ (l : List ℕ) (k : ℕ). l ++ (k ∷ [])) t.keys e
            ∙ sym (map-append key_of (take i xs) (get_or xs i (pos 0) ∷ []))
            ∙ ap (map key_of) (sym (first_more (pos 0) xs i h));
        words = subst⁻¹ Words (first_more (pos 0) xs i h) (λ x m. either x (Memᴰ.append_cases (take i xs) m));
      }
    where
      either : (x : ℤ) → Memᴰ x (take i xs) ⊎ Memᴰ x (get_or xs i (pos 0) ∷ []) → mag x < 2 ^ 31
      either x (inl m) = t.words x m
      either x (inr m) = subst⁻¹ (λ (z : ℤ). mag z < 2 ^ 31) (Memᴰ.eq_of_singleton m) small
