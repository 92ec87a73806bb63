-- The laws of lists turned round: what stands in them, and how maps pass through. Assumes nothing.
use Rattle.std.specs.Prelude.{◌≡◌, refl, ◌⊎◌}
use Rattle.std.proofs.Common.{sym, ap, ◌∙◌, subst, inl, inr, ⊎_elim}
use Rattle.std.proofs.Math.Path.{fun_ext}
use mathlib.Core.List.{List, [], ◌∷◌, map, map-map, reverse, reverse_aux, reverse-reverse}
use mathlib.Core.List.Memᴰ
use mathlib.Core.List.{Memᴰ}

-- ---- maps

-- one map after another is a third, if that holds of each item
pub map_both : {A : Type 0} (f g h : A → A) → ((x : A) → g (f x) ≡ h x) → (xs : List A) → map g (map f xs) ≡ map h xs
map_both {A} f g h e xs = map-map g f xs ∙ ap (λ (k : A → A). map k xs) (fun_ext e)

map_reverse_aux : {A B : Type 0} (f : A → B) (xs ys : List A) → map f (reverse_aux xs ys) ≡ reverse_aux (map f xs) (map f ys)
map_reverse_aux f [] ys = refl
map_reverse_aux f (x ∷ xs) ys = map_reverse_aux f xs (x ∷ ys)

pub map-reverse : {A B : Type 0} (f : A → B) (xs : List A) → map f (reverse xs) ≡ reverse (map f xs)
map-reverse f xs = map_reverse_aux f xs []

module _ {A : Type 0} where
  -- ---- what stands in a list turned round
  reverseAux_in : (xs : List A) {ys : List A} {p : A} → Memᴰ p (reverse_aux xs ys) → Memᴰ p xs ⊎ Memᴰ p ys
  reverseAux_in [] m = inr m
  reverseAux_in (x ∷ xs) {ys} {p} m = ⊎_elim (λ h. inl (Memᴰ.tail h)) (λ h. later (Memᴰ.cases_cons h)) (reverseAux_in xs m)
    where
      later : (p ≡ x) ⊎ Memᴰ p ys → Memᴰ p (x ∷ xs) ⊎ Memᴰ p ys
      later (inl e) = inl (Memᴰ.head e)
      later (inr h) = inr h

  pub reverse_in : (xs : List A) {p : A} → Memᴰ p (reverse xs) → Memᴰ p xs
  reverse_in xs m = ⊎_elim (λ h. h) (λ h. absurd (Memᴰ.not-nil h)) (reverseAux_in xs m)

  pub in_reverse : {xs : List A} {p : A} → Memᴰ p xs → Memᴰ p (reverse xs)
  in_reverse {xs} {p} m = reverse_in (reverse xs) (subst (λ (l : List A). Memᴰ p l) (sym (reverse-reverse xs)) m)
