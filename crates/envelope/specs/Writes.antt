-- Writing a list to the front of another, item by item, and one list behind another. Assumes nothing.
use Rattle.std.specs.Prelude.{◌≡◌, refl, List, [], ◌∷◌, ◌++◌, map, ℕ, zero, suc, ◌+◌, ◌-◌, ◌≤◌, ◌<◌, length, get_or, set, take, drop}
use Rattle.std.proofs.Common.{sym, ap, ◌∙◌, append-nil, append_assoc, add-one, arith, length-append, length-drop, drop_of_length-le, length-take-le, take_all, take-suc, drop-cons, drop-drop, take_at, drop_at}
use Rattle.std.proofs.lemmas.List.{map-append, length-map, set_at}
use Rattle.std.proofs.Math.Seq.{append_snoc}
use borrow.Rule.Slice.PartMut.{put_mid}
use Rattle.rules.specs.Lists.{written}

module _ {A B : Type 0} (f : A → B) where
  pub map-drop : (k : ℕ) (xs : List A) → map f (drop k xs) ≡ drop k (map f xs)
  map-drop zero xs = refl
  map-drop (suc k) [] = refl
  map-drop (suc k) (x ∷ xs) = map-drop k xs

  pub map-take : (k : ℕ) (xs : List A) → map f (take k xs) ≡ take k (map f xs)
  map-take zero xs = refl
  map-take (suc k) [] = refl
  map-take (suc k) (x ∷ xs) = ap (λ (l : List B). f x ∷ l) (map-take k xs)

module _ {A : Type 0} (f : A → A) where
  -- one more of the list is written, changed by f
  pub mapped_more : (d : A) (xs old : List A) (i : ℕ) → i < length xs → length xs ≤ length old →
      set (map f (take i xs) ++ drop i old) i (f (get_or xs i d)) ≡ map f (take (i + 1) xs) ++ drop (i + 1) old
  mapped_more d xs old i h l =
      ap (λ (rest : List A). set (map f (take i xs) ++ rest) i v) (drop-cons old i d (omega arith)) ∙
      set_at (map f (take i xs)) (get_or old i d) (drop (suc i) old) v i (length-map (take i xs) f ∙ length-take-le i xs (omega arith)) ∙
      sym (append_snoc (map f (take i xs)) v (drop (suc i) old)) ∙
      ap (λ (front : List A). front ++ drop (suc i) old) (sym (ap (map f) (take-suc xs i d h) ∙ map-append f (take i xs) (get_or xs i d ∷ []))) ∙
      ap (λ (k : ℕ). map f (take k xs) ++ drop k old) (sym (add-one i))
    where
      v : A
      v = f (get_or xs i d)

module _ {A : Type 0} where
  -- X was written, and then Y to what lies from the end of X on
  pub two-written : (X Y old w ys : List A) (r : ℕ) → length X ≡ r → w ≡ written X old → ys ≡ written Y (take (length w - r) (drop r w)) →
      put_mid r (length w - r) w ys ≡ written (X ++ Y) old
  two-written X Y old w ys r n e h =
      (λ k. front k ++ (second k ++ nothing k)) ∙
      ap (λ (l : List A). X ++ l) (append-nil (Y ++ drop (length Y) (drop r old))) ∙
      sym (append_assoc X Y (drop (length Y) (drop r old))) ∙
      ap (λ (l : List A). (X ++ Y) ++ l) (drop-drop (length Y) r old) ∙
      ap (λ (k : ℕ). (X ++ Y) ++ drop k old) (sym (length-append X Y ∙ ap (λ (k : ℕ). k + length Y) n))
    where
      first : w ≡ X ++ drop r old
      first = e ∙ ap (λ (k : ℕ). X ++ drop k old) n

      front : take r w ≡ X
      front = ap (take r) first ∙ take_at X (drop r old) r n

      rest : drop r w ≡ drop r old
      rest = ap (drop r) first ∙ drop_at X (drop r old) r n

      count : length (drop r w) ≤ length w - r
      count = omega (arith, length-drop r w)

      second : ys ≡ Y ++ drop (length Y) (drop r old)
      second = h ∙ ap (written Y) (take_all (length w - r) (drop r w) count ∙ rest)

      nothing : drop (length w - r) (drop r w) ≡ []
      nothing = drop_of_length-le (drop r w) count
