-- "The middle of the middles of groups of five", and how it splits the list: at most seven tenths of the items and a constant lie on either
-- side, so that picking by such pivots is linear work. The groups are whole: up to four items after the last of them take no part in the choice. A group is a
-- column: the list lies in five rows of one length, and the groups go across them.
-- Assumes nothing.
use Rattle.std.specs.Prelude.{◌≡◌, Bool, true, false, List, [], ◌∷◌, ◌++◌, map, T, length, get_or, take, drop}
use Rattle.std.proofs.Math.Path.{refl, ap}
use Rattle.std.proofs.Common.{sym, ◌∙◌, subst, take-append-drop, take-suc, drop-drop}
use Rattle.std.proofs.lemmas.List.{map-append}
use Prim.Native.Nat.{ℕ, zero, suc, ◌+◌, ◌*◌, ◌/◌, ◌≤◌, ◌<◌, zero-le}
use native.Mathlib.Omega.{arith}
use Rattle.std.proofs.Math.ListN.{length-append, length-drop, length-map}
use Rattle.std.proofs.Math.Seq.{get_or-drop}
use Rattle.rules.specs.Picker.{ranked}
use Rattle.laws_ranks.specs.Counts.{bit, count, count-append, count-mono, count-not}
use Rattle.laws_ranks.specs.Ranks.{Order, HasRank, under, upto, over, ranked-has-rank}

-- group i of g, d where there is no item
abbrev pub column : {A : Type 0} → A → ℕ → List A → ℕ → List A
column d g xs i = get_or xs i d ∷ get_or xs (g + i) d ∷ get_or xs (2 * g + i) d ∷ get_or xs (3 * g + i) d ∷ get_or xs (4 * g + i) d ∷ []

-- the first k of g groups of five
unfoldable pub fives : {A : Type 0} → A → ℕ → List A → ℕ → List (List A)
fives d g xs zero = []
fives d g xs (suc k) = fives d g xs k ++ (column d g xs k ∷ [])

module _ {A : Type 0} (le : A → A → Bool) (d : A) where
  -- the middle item by rank, the lower of two: d where there is none
  unfoldable pub middle : List A → A
  middle xs = ranked le d ((length xs + 1) / 2) xs

  -- the middles of the groups of five
  unfoldable pub middles : List A → List A
  middles xs = map middle (fives d (length xs / 5) xs (length xs / 5))

  unfoldable pub middle_of_middles : List A → A
  middle_of_middles xs = middle (middles xs)

-- ---- the groups one by one

module _ {A : Type 0} (d : A) (g : ℕ) (xs : List A) where
  pub fives_more : (k : ℕ) → fives d g xs (suc k) ≡ fives d g xs k ++ (column d g xs k ∷ [])
  unfolding fives
  fives_more k = refl

  pub length-fives : (k : ℕ) → length (fives d g xs k) ≡ k
  unfolding fives
  length-fives zero = refl
  length-fives (suc k) = omega (arith, length-append (fives d g xs k) (column d g xs k ∷ []), length-fives k)

-- ---- how the middle of the middles splits the list

-- p leaves at most seven tenths and a constant on either side, and at least three items are at most p, and three at least p
pub record Splits {A : Type 0} (le : A → A → Bool) (xs : List A) (p : A) : Type 0 where
  pub below : 10 * count (under le p) xs ≤ 7 * length xs
  pub above : 10 * count (over le p) xs ≤ 7 * length xs + 12
  pub some_upto : 3 ≤ count (upto le p) xs
  pub some_from : 3 + count (under le p) xs ≤ length xs

module _ {A : Type 0} {le : A → A → Bool} (o : Order le) (d : A) where
  pub length-middles : (xs : List A) → length (middles le d xs) ≡ length xs / 5
  unfolding middles
  length-middles xs = length-map (fives d (length xs / 5) xs (length xs / 5)) (middle le d) ∙ length-fives d (length xs / 5) xs (length xs / 5)

  -- the middle of five: three items are at most it, and three at least
  three-upto : (xs : List A) → length xs ≡ 5 → 3 ≤ count (upto le (middle le d xs)) xs
  unfolding middle
  three-upto xs e =
      let h = ranked-has-rank o d ((length xs + 1) / 2) xs (omega arith) (omega arith) in
      let a = h.enough in
      omega arith

  three_from : (xs : List A) → length xs ≡ 5 → 3 ≤ count (le (middle le d xs)) xs
  unfolding middle
  three_from xs e =
      let h = ranked-has-rank o d ((length xs + 1) / 2) xs (omega arith) (omega arith) in
      let a = h.fewer in
      omega (arith, count-not (le (ranked le d ((length xs + 1) / 2) xs)) xs)

  -- a row of k items and one more, and a row of g items and what follows it
  row_more : (f : A → Bool) (j k i : ℕ) (xs : List A)
      → i ≡ j + k
      → i < length xs
      → count f (take (suc k) (drop j xs)) ≡ count f (take k (drop j xs)) + bit (f (get_or xs i d))
  unfolding count
  row_more f j k i xs e h =
      rw (take-suc (drop j xs) k d (omega (arith, length-drop j xs)), get_or-drop j xs k d, ← e)
      (omega (arith, count-append f (take k (drop j xs)) (get_or xs i d ∷ [])))

  row_next : (f : A → Bool) (j g k : ℕ) (xs : List A)
      → k ≡ j + g
      → count f (drop j xs) ≡ count f (take g (drop j xs)) + count f (drop k xs)
  row_next f j g k xs e =
      ap (count f) (sym (take-append-drop g (drop j xs)))
      ∙ count-append f (take g (drop j xs)) (drop g (drop j xs))
      ∙ ap (λ (l : List A). count f (take g (drop j xs)) + count f l) (drop-drop g j xs ∙ ap (λ (n : ℕ). drop n xs) (sym e))

  -- a test that passes for three of each group whose middle passes it passes for three times as many items as middles
  module _ (f : A → Bool) (three : (xs : List A) → length xs ≡ 5 → T (f (middle le d xs)) → 3 ≤ count f xs) (g : ℕ) (xs : List A) (room : 5 * g ≤ length xs) where
    -- how many pass among the first k of each row
    abbrev among : ℕ → ℕ
    among k =
        count f (take k (drop 0 xs)) + count f (take k (drop g xs)) + count f (take k (drop (2 * g) xs)) + count f (take k (drop (3 * g) xs))
        + count f (take k (drop (4 * g) xs))

    among_rows : (k : ℕ) → k ≤ g → 3 * count f (map (middle le d) (fives d g xs k)) ≤ among k
    unfolding fives count
    among_rows zero few = zero-le
    among_rows (suc k) few = go (f (middle le d (column d g xs k))) refl (among_rows k (omega arith))
      where
        more : count f (map (middle le d) (fives d g xs (suc k)))
            ≡ count f (map (middle le d) (fives d g xs k)) + bit (f (middle le d (column d g xs k)))
        more =
            omega (
              arith,
              ap (count f) (map-append (middle le d) (fives d g xs k) (column d g xs k ∷ [])),
              count-append f (map (middle le d) (fives d g xs k)) (middle le d (column d g xs k) ∷ []),
            )

        rows : among (suc k) ≡ among k + count f (column d g xs k)
        rows =
            omega (
              arith,
              row_more f 0 k k xs (omega arith) (omega arith),
              row_more f g k (g + k) xs refl (omega arith),
              row_more f (2 * g) k (2 * g + k) xs refl (omega arith),
              row_more f (3 * g) k (3 * g + k) xs refl (omega arith),
              row_more f (4 * g) k (4 * g + k) xs refl (omega arith),
            )

        go : (b : Bool) → f (middle le d (column d g xs k)) ≡ b
            → 3 * count f (map (middle le d) (fives d g xs k)) ≤ among k
            → 3 * count f (map (middle le d) (fives d g xs (suc k))) ≤ among (suc k)
        go true e ih = omega (arith, more, rows, ap bit e, three (column d g xs k) refl (subst T (sym e) tt))
        go false e ih = omega (arith, more, rows, ap bit e)

    thrice : 3 * count f (map (middle le d) (fives d g xs g)) ≤ count f xs
    thrice =
        omega (
          arith,
          among_rows g (omega arith),
          row_next f 0 g g xs (omega arith),
          row_next f g g (2 * g) xs (omega arith),
          row_next f (2 * g) g (3 * g) xs (omega arith),
          row_next f (3 * g) g (4 * g) xs (omega arith),
          row_next f (4 * g) g (5 * g) xs (omega arith),
        )

  -- three items of a group are at most p where its middle is, and at least p where its middle is
  three_upto_p : (p : A) (xs : List A) → length xs ≡ 5 → T (upto le p (middle le d xs)) → 3 ≤ count (upto le p) xs
  three_upto_p p xs e t =
      let more = count-mono (upto le (middle le d xs)) (upto le p) xs (λ x m u. o.trans x (middle le d xs) p u t) in
      omega (arith, three-upto xs e)

  three_from_p : (p : A) (xs : List A) → length xs ≡ 5 → T (le p (middle le d xs)) → 3 ≤ count (le p) xs
  three_from_p p xs e t =
      let more = count-mono (le (middle le d xs)) (le p) xs (λ x m u. o.trans p (middle le d xs) x t u) in
      omega (arith, three_from xs e)

  splits : (g : ℕ) (xs : List A) (p : A)
      → g ≡ length xs / 5
      → 5 ≤ length xs
      → HasRank le ((g + 1) / 2) (map (middle le d) (fives d g xs g)) p
      → Splits le xs p
  splits g xs p e five h =
      let ms = map (middle le d) (fives d g xs g) in
      let long : length ms ≡ g = length-map (fives d g xs g) (middle le d) ∙ length-fives d g xs g in
      let a = h.fewer in
      let b = h.enough in
      let c = thrice (upto le p) (three_upto_p p) g xs (omega arith) in
      let f = thrice (le p) (three_from_p p) g xs (omega arith) in
      let i = count-not (le p) xs in
      let j = count-not (le p) ms in
      let k = count-not (upto le p) xs in
      record { below = omega arith; above = omega arith; some_upto = omega arith; some_from = omega arith }

  pub middle_of_middles_splits : (xs : List A) → 5 ≤ length xs → Splits le xs (middle_of_middles le d xs)
  unfolding middle_of_middles middle middles
  middle_of_middles_splits xs five =
      let ms = middles le d xs in
      let long = length-middles xs in
      let h = ranked-has-rank o d ((length ms + 1) / 2) ms (omega arith) (omega arith) in
      splits
      (length xs / 5)
      xs
      (middle_of_middles le d xs)
      refl
      five
      (subst (λ (k : ℕ). HasRank le ((k + 1) / 2) ms (middle_of_middles le d xs)) long h)
