-- A list by its places: what a function gives at so many places, from the first to the last, and from the last back to the first.
-- Assumes nothing.
use Rattle.std.specs.Prelude.{◌≡◌, refl, ◌⊎◌, List, [], ◌∷◌, ◌++◌, map, reverse, ℕ, zero, suc, ◌+◌, ◌-◌, ◌<◌, length, drop, set, get_or}
use Rattle.std.proofs.Common.{sym, ap, ap₂, ◌∙◌, inl, inr, ⊎_elim, append_assoc, eq-or-lt_of_le, zero-add, suc-add, add-one, arith, drop-cons}
use Rattle.std.proofs.lemmas.List.{reverse-append, set_at}
use mathlib.Core.List.Memᴰ
use mathlib.Core.List.{Memᴰ}

-- a place below t + 1 is below t, or t itself
pub below_or_last : {i t : ℕ} → i < suc t → (i < t) ⊎ (i ≡ t)
below_or_last {i} {t} h = ⊎_elim inr inl (eq-or-lt_of_le {n = i} {m = t} (omega arith))

module _ {A : Type 0} where
  -- f at n places, from 0 on
  abbrev pub listed : (ℕ → A) → ℕ → List A
  listed f zero = []
  listed f (suc n) = f 0 ∷ listed (λ i. f (suc i)) n

  pub length-listed : (f : ℕ → A) (n : ℕ) → length (listed f n) ≡ n
  length-listed f zero = refl
  length-listed f (suc n) = ap suc (length-listed (λ i. f (suc i)) n)

  pub listed_in : (f : ℕ → A) (n : ℕ) {x : A} → Memᴰ x (listed f n) → (i : ℕ) × (i < n) × (x ≡ f i)
  listed_in f zero m = absurd (Memᴰ.not-nil m)
  listed_in f (suc n) {x} m = ⊎_elim (λ e. (0, (omega arith), e)) (λ h. later (listed_in (λ i. f (suc i)) n h)) (Memᴰ.cases_cons m)
    where
      later : (i : ℕ) × (i < n) × (x ≡ f (suc i)) → (i : ℕ) × (i < suc n) × (x ≡ f i)
      later h = (suc h.0, (let p = h.1 in omega arith), h.2)

  pub in_listed : (f : ℕ → A) (n : ℕ) {i : ℕ} {x : A} → i < n → x ≡ f i → Memᴰ x (listed f n)
  in_listed f zero h e = absurd (omega arith)
  in_listed f (suc n) {i = zero} h e = Memᴰ.head e
  in_listed f (suc n) {i = suc i} h e = Memᴰ.tail (in_listed (λ j. f (suc j)) n {i = i} (omega arith) e)

  -- one place more
  pub listed_more : (f : ℕ → A) (n : ℕ) → listed f (suc n) ≡ listed f n ++ (f n ∷ [])
  listed_more f zero = refl
  listed_more f (suc n) = ap (λ (l : List A). f 0 ∷ l) (listed_more (λ i. f (suc i)) n)

  pub listed-alike : (f g : ℕ → A) (n : ℕ) → ((i : ℕ) → i < n → f i ≡ g i) → listed f n ≡ listed g n
  listed-alike f g zero h = refl
  listed-alike f g (suc n) h = ap₂ ◌∷◌ (h 0 (omega arith)) (listed-alike (λ i. f (suc i)) (λ i. g (suc i)) n (λ i l. h (suc i) (omega arith)))

  pub listed-both : (f : ℕ → A) (m n : ℕ) → listed f (m + n) ≡ listed f m ++ listed (λ i. f (m + i)) n
  listed-both f zero n = rw zero-add (listed-alike f (λ i. f (0 + i)) n (λ i l. ap f (sym (zero-add i))))
  listed-both f (suc m) n = rw suc-add (ap (λ (l : List A). f 0 ∷ l) (listed-both (λ i. f (suc i)) m n
      ∙ ap (λ (l : List A). listed (λ i. f (suc i)) m ++ l) (listed-alike (λ i. f (suc (m + i))) (λ i. f (suc m + i)) n (λ i l. ap f (sym (suc-add m i))))))

  -- f at n places, back to 0
  abbrev pub back : (ℕ → A) → ℕ → List A
  back f zero = []
  back f (suc n) = f n ∷ back f n

  pub reverse-listed : (f : ℕ → A) (n : ℕ) → reverse (listed f n) ≡ back f n
  reverse-listed f zero = refl
  reverse-listed f (suc n) =
      ap reverse (listed_more f n) ∙ reverse-append (listed f n) (f n ∷ []) ∙ ap (λ (l : List A). f n ∷ l) (reverse-listed f n)

  pub back-listed : (f : ℕ → A) (n : ℕ) → back f n ≡ listed (λ i. f (n - suc i)) n
  back-listed f zero = refl
  back-listed f (suc n) =
      ap₂ ◌∷◌ (ap f (omega arith)) (back-listed f n ∙ listed-alike (λ i. f (n - suc i)) (λ i. f (suc n - suc (suc i))) n (λ i l. ap f (omega arith)))

  -- ---- a list written from the front: f at the first i places, and what was there before beyond them
  written_more : (f : ℕ → A) (old : List A) (i : ℕ) → i < length old → set (listed f i ++ drop i old) i (f i) ≡ listed f (suc i) ++ drop (suc i) old
  written_more f old i h =
      ap (λ (l : List A). set (listed f i ++ l) i (f i)) (drop-cons old i (f i) h)
      ∙ set_at (listed f i) (get_or old i (f i)) (drop (suc i) old) (f i) i (length-listed f i)
      ∙ sym (ap (λ (l : List A). l ++ drop (suc i) old) (listed_more f i) ∙ append_assoc (listed f i) (f i ∷ []) (drop (suc i) old))

  pub written_on : (f : ℕ → A) (old : List A) {l : List A} {i : ℕ} {v : A} → l ≡ listed f i ++ drop i old → v ≡ f i → i < length old
      → set l i v ≡ listed f (i + 1) ++ drop (i + 1) old
  written_on f old {i} e q h = rw (e, q, add-one) (written_more f old i h)

pub map-listed : {A B : Type 0} (h : A → B) (f : ℕ → A) (n : ℕ) → map h (listed f n) ≡ listed (λ i. h (f i)) n
map-listed h f zero = refl
map-listed {B} h f (suc n) = ap (λ (l : List B). h (f 0) ∷ l) (map-listed h (λ i. f (suc i)) n)
