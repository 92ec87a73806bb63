-- Lists by their places: some corners from one on, and all of them. Assumes nothing.
use Rattle.std.specs.Prelude.{◌≡◌, refl, List, [], ◌∷◌, ◌++◌, map, ℕ, zero, suc, ◌+◌, ◌-◌, ◌≤◌, ℤ, pos, length, drop}
use Rattle.std.proofs.Common.{sym, ap, ap₂, ◌∙◌, arith}
use Rattle.std.proofs.lemmas.List.{length-map}
use Rattle.std.proofs.Math.Seq.{slice, slice_empty, slice-cons, length-slice}
use Rattle.rules.specs.Lists.{written}
use Rattle.rules.specs.Streams.{Stream, stream, sample}
use Rattle.laws_stack.specs.Places.{listed, listed-alike, map-listed}

-- a part of each of n corners from lo on
pub listed_slice : (part : Stream → ℤ) (L : List Stream) (lo n : ℕ) → lo + n ≤ length L → listed (λ k. part (sample L (lo + k))) n ≡ map part (slice lo (lo + n) L)
listed_slice part L lo zero h = let e : lo + 0 ≡ lo = omega arith in sym (ap (map part) (ap (λ (t : ℕ). slice lo t L) e ∙ slice_empty lo L))
listed_slice part L lo (suc n) h =
    ap₂ ◌∷◌ (ap (λ (k : ℕ). part (sample L k)) first)
    (listed-alike (λ k. part (sample L (lo + suc k))) (λ k. part (sample L (suc lo + k))) n (λ k l. ap (λ (m : ℕ). part (sample L m)) (later k)) ∙ listed_slice part L (suc lo) n (omega arith)
    ∙ ap (λ (t : ℕ). map part (slice (suc lo) t L)) next)
    ∙ sym (ap (map part) (slice-cons lo (lo + suc n) L (stream (pos 0) (pos 0)) (omega arith) h))
  where
    first : lo + 0 ≡ lo
    first = omega arith

    later : (k : ℕ) → lo + suc k ≡ suc lo + k
    later k = omega arith

    next : suc lo + n ≡ lo + suc n
    next = omega arith

-- what is listed so and written is the slice written
pub listed-written : (part : Stream → ℤ) (L : List Stream) (lo n : ℕ) (old : List ℤ) → lo + n ≤ length L
    → listed (λ k. part (sample L (lo + k))) n ++ drop n old ≡ written (map part (slice lo (lo + n) L)) old
listed-written part L lo n old h = ap₂ (λ (l : List ℤ) (k : ℕ). l ++ drop k old) (listed_slice part L lo n h) (sym count)
  where
    size : lo + n - lo ≡ n
    size = omega arith

    count : length (map part (slice lo (lo + n) L)) ≡ n
    count = length-map (slice lo (lo + n) L) part ∙ length-slice lo (lo + n) L h ∙ size

-- all of a list, by places
pub all_listed : (L : List Stream) → L ≡ listed (sample L) (length L)
all_listed [] = refl
all_listed (x ∷ L) = ap (λ (l : List Stream). x ∷ l) (all_listed L)

-- written, it stands so
pub all-written : (part : Stream → ℤ) (L : List Stream) (n : ℕ) (old : List ℤ) → length L ≡ n → written (map part L) old ≡ listed (λ i. part (sample L i)) n ++ drop n old
all-written part L n old e =
    ap₂ (λ (l : List ℤ) (k : ℕ). l ++ drop k old) (ap (map part) (all_listed L) ∙ map-listed part (sample L) (length L)) (length-map L part)
    ∙ ap (λ (k : ℕ). listed (λ i. part (sample L i)) k ++ drop k old) e
