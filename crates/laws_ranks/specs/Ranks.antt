-- The r-th smallest by counting: a value has rank r among the items if fewer than r lie strictly below it and at least r are at most it.
-- The laws hold for any test of order that is total and transitive; two values of one rank are then level: each is at most the other.
-- Assumes nothing.
use Rattle.std.specs.Prelude.{◌≡◌, ◌⊎◌, Bool, cond, not}
use Rattle.std.proofs.Math.Path.{refl, ap, subst}
use Rattle.std.proofs.Common.{sym, ◌∙◌, le_of_suc-le-suc, not-suc-le-zero, T_not}
use Rattle.std.proofs.Math.Logic.{inl, inr}
use Rattle.std.proofs.Math.Bool.{true, false}
use mathlib.Core.List.Memᴰ
use mathlib.Core.List.{List, [], ◌∷◌, Memᴰ}
use Prim.Native.Nat.{ℕ, zero, suc, ◌+◌, ◌-◌, ◌≤◌, ◌<◌}
use native.Mathlib.Omega.{arith}
use Rattle.std.proofs.Math.Dec.{T, not_T}
use Rattle.std.proofs.Math.ListN.{length, get_or}
use Rattle.rules.specs.Lists.{those, insert, sorted}
use Rattle.rules.specs.Picker.{ranked}
use Rattle.laws_ranks.specs.Counts.{same_test, bit, bit_le, bit_yes, bit_no, count, not_by, count-mono, count_same, count-le-length, count-all, count-nothing, count-not, length-those, count_split, of_those, SameItems, same_items_length}

-- a test of order, "the first is at most the second", that is total and transitive
pub record Order {A : Type 0} (le : A → A → Bool) : Type 0 where
  pub total : (x y : A) → T (not (le x y)) → T (le y x)
  pub trans : (x y z : A) → T (le x y) → T (le y z) → T (le x z)

pub not-not : (b : Bool) → T (not (not b)) → T b
not-not true t = tt
not-not false t = t

pub twice : (b : Bool) → T b → T (not (not b))
twice true t = tt
twice false t = t

pub getD_in : {A : Type 0} (xs : List A) (k : ℕ) (d : A) → k < length xs → Memᴰ (get_or xs k d) xs
getD_in [] k d i = absurd (not-suc-le-zero i)
getD_in (x ∷ xs) zero d i = Memᴰ.head refl
getD_in (x ∷ xs) (suc k) d i = Memᴰ.tail (getD_in xs k d (le_of_suc-le-suc i))

module _ {A : Type 0} (le : A → A → Bool) where
  -- the items strictly below v, at most v, and strictly above v
  abbrev pub under : A → A → Bool
  under v x = not (le v x)

  abbrev pub upto : A → A → Bool
  upto v x = le x v

  abbrev pub over : A → A → Bool
  over v x = not (le x v)

  -- v has rank r among the items, repeats counted
  pub record HasRank (r : ℕ) (xs : List A) (v : A) : Type 0 where
    pub fewer : count (under v) xs < r
    pub enough : r ≤ count (upto v) xs

  -- each lies at most the other
  pub record Level (v w : A) : Type 0 where
    pub low : T (le v w)
    pub high : T (le w v)

-- ---- the order

module _ {A : Type 0} {le : A → A → Bool} (o : Order le) where
  pub le_self : (x : A) → T (le x x)
  le_self x = go (le x x) refl
    where
      go : (b : Bool) → le x x ≡ b → T (le x x)
      go true e = subst T (sym e) tt
      go false e = o.total x x (subst (λ (b : Bool). T (not b)) (sym e) tt)

  pub level_self : (x : A) → Level le x x
  level_self x = record { low = le_self x; high = le_self x }

  -- x < y ≤ z and x ≤ y < z give x < z, and x < y gives x ≤ y; `under y x` is x < y
  pub under-le : (x y z : A) → T (under le y x) → T (le y z) → T (under le z x)
  under-le x y z h k = not_T (le z x) (λ t. T_not (le y x) h (o.trans y z x k t))

  pub le-under : (x y z : A) → T (le x y) → T (under le z y) → T (under le z x)
  le-under x y z h k = not_T (le z x) (λ t. T_not (le z y) k (o.trans z x y t h))

  pub under-upto : (x y : A) → T (under le y x) → T (le x y)
  under-upto x y h = o.total y x h

  pub level-turned : {v w : A} → Level le v w → Level le w v
  level-turned h = record { low = h.high; high = h.low }

  pub level_trans : {u v w : A} → Level le u v → Level le v w → Level le u w
  level_trans {u} {v} {w} h k = record { low = o.trans u v w h.low k.low; high = o.trans w v u k.high h.high }

  -- ---- counts depend on the value alone

  pub level-under : {v w : A} → Level le v w → (x : A) → under le v x ≡ under le w x
  level-under {v} {w} h x = same_test (under le v x) (under le w x) (λ t. under-le x v w t h.low) (λ t. under-le x w v t h.high)

  pub level-upto : {v w : A} → Level le v w → (x : A) → upto le v x ≡ upto le w x
  level-upto {v} {w} h x = same_test (upto le v x) (upto le w x) (λ t. o.trans x v w t h.low) (λ t. o.trans x w v t h.high)

  pub count-under-level : {v w : A} → Level le v w → (xs : List A) → count (under le v) xs ≡ count (under le w) xs
  count-under-level {v} {w} h xs = count_same (under le v) (under le w) xs (λ x m. level-under h x)

  pub count-upto-level : {v w : A} → Level le v w → (xs : List A) → count (upto le v) xs ≡ count (upto le w) xs
  count-upto-level {v} {w} h xs = count_same (upto le v) (upto le w) xs (λ x m. level-upto h x)

  -- ---- one rank, one value

  pub rank-le : {r : ℕ} {xs : List A} {v w : A} → HasRank le r xs v → HasRank le r xs w → T (le v w)
  rank-le {r} {xs} {v} {w} h k = go (le v w) refl
    where
      go : (b : Bool) → le v w ≡ b → T (le v w)
      go true e = subst T (sym e) tt
      go false e =
          let wv : T (under le v w) = subst (λ (b : Bool). T (not b)) (sym e) tt in
          let more : count (upto le w) xs ≤ count (under le v) xs = count-mono (upto le w) (under le v) xs (λ x m t. le-under x w v t wv) in
          let a = h.fewer in
          let b = k.enough in
          absurd (omega arith)

  pub rank-level : {r : ℕ} {xs : List A} {v w : A} → HasRank le r xs v → HasRank le r xs w → Level le v w
  rank-level h k = record { low = rank-le h k; high = rank-le k h }

  pub rank_of_level : {r : ℕ} {xs : List A} {v w : A} → Level le v w → HasRank le r xs v → HasRank le r xs w
  rank_of_level {r} {xs} {v} {w} e h =
      record {
        fewer = subst (λ (n : ℕ). n < r) (count-under-level e xs) h.fewer;
        enough = subst (λ (n : ℕ). r ≤ n) (count-upto-level e xs) h.enough;
      }

  -- ---- the items in order

  abbrev pub Rising : List A → Type 0
  Rising [] = Unit {0}
  Rising (x ∷ xs) = ((y : A) → Memᴰ y xs → T (le x y)) × Rising xs

  -- an item of the longer list is x, or one of the others
  insert-is : (x : A) (ys : List A) {z : A} → Memᴰ z (insert le x ys) → (z ≡ x) ⊎ Memᴰ z ys
  unfolding insert
  insert-is x [] m = Memᴰ.cases_cons m
  insert-is x (y ∷ ys) {z} m = go (le x y) (λ k. insert-is x ys k) m
    where
      later : (z ≡ x) ⊎ Memᴰ z ys → (z ≡ x) ⊎ Memᴰ z (y ∷ ys)
      later (inl e) = inl e
      later (inr k) = inr (Memᴰ.tail k)

      step : (Memᴰ z (insert le x ys) → (z ≡ x) ⊎ Memᴰ z ys) → (z ≡ y) ⊎ Memᴰ z (insert le x ys) → (z ≡ x) ⊎ Memᴰ z (y ∷ ys)
      step ih (inl e) = inr (Memᴰ.head e)
      step ih (inr k) = later (ih k)

      go : (b : Bool) → (Memᴰ z (insert le x ys) → (z ≡ x) ⊎ Memᴰ z ys)
          → Memᴰ z (cond b (x ∷ y ∷ ys) (y ∷ insert le x ys))
          → (z ≡ x) ⊎ Memᴰ z (y ∷ ys)
      go true ih k = Memᴰ.cases_cons k
      go false ih k = step ih (Memᴰ.cases_cons k)

  rising_insert : (x : A) (ys : List A) → Rising ys → Rising (insert le x ys)
  unfolding insert
  rising_insert x [] h = (λ y m. absurd (Memᴰ.not-nil m), tt)
  rising_insert x (y ∷ ys) h = go (le x y) refl (rising_insert x ys h.1)
    where
      first : T (le x y) → (z : A) → (z ≡ y) ⊎ Memᴰ z ys → T (le x z)
      first t z (inl e) = subst (λ (a : A). T (le x a)) (sym e) t
      first t z (inr k) = o.trans x y z t (h.0 z k)

      later : T (le y x) → (z : A) → (z ≡ x) ⊎ Memᴰ z ys → T (le y z)
      later t z (inl e) = subst (λ (a : A). T (le y a)) (sym e) t
      later t z (inr k) = h.0 z k

      go : (b : Bool) → le x y ≡ b → Rising (insert le x ys) → Rising (cond b (x ∷ y ∷ ys) (y ∷ insert le x ys))
      go true e ih = (λ z m. first (subst T (sym e) tt) z (Memᴰ.cases_cons m), h)
      go false e ih = (λ z m. later (o.total x y (subst (λ (b : Bool). T (not b)) (sym e) tt)) z (insert-is x ys m), ih)

  pub rising_sorted : (xs : List A) → Rising (sorted le xs)
  unfolding sorted
  rising_sorted [] = tt
  rising_sorted (x ∷ xs) = rising_insert x (sorted le xs) (rising_sorted xs)

  -- of items in rising order, the one at place k: at most k lie strictly below it, and more than k are at most it
  rising_fewer : (zs : List A) → Rising zs → (k : ℕ) (d : A) → k < length zs → count (under le (get_or zs k d)) zs ≤ k
  unfolding count
  rising_fewer [] h k d i = absurd (not-suc-le-zero i)
  rising_fewer (z ∷ zs) h zero d i =
      let first = bit_no (under le z z) (twice (le z z) (le_self z)) in
      let later = count-nothing (under le z) zs (λ y m. twice (le z y) (h.0 y m)) in
      omega arith
  rising_fewer (z ∷ zs) h (suc k) d i =
      let v = get_or zs k d in
      let ih = rising_fewer zs h.1 k d (le_of_suc-le-suc i) in
      omega (arith, bit_le (under le v z) true (λ t. tt))

  rising_enough : (zs : List A) → Rising zs → (k : ℕ) (d : A) → k < length zs → k < count (upto le (get_or zs k d)) zs
  unfolding count
  rising_enough [] h k d i = absurd (not-suc-le-zero i)
  rising_enough (z ∷ zs) h zero d i = omega (arith, bit_yes (le z z) (le_self z))
  rising_enough (z ∷ zs) h (suc k) d i =
      let v = get_or zs k d in
      let ih = rising_enough zs h.1 k d (le_of_suc-le-suc i) in
      omega (arith, bit_yes (le z v) (h.0 v (getD_in zs k d (le_of_suc-le-suc i))))

  count-insert : (f : A → Bool) (x : A) (ys : List A) → count f (insert le x ys) ≡ bit (f x) + count f ys
  unfolding count insert
  count-insert f x [] = refl
  count-insert f x (y ∷ ys) = go (le x y) (count-insert f x ys)
    where
      go : (b : Bool) → count f (insert le x ys) ≡ bit (f x) + count f ys
          → count f (cond b (x ∷ y ∷ ys) (y ∷ insert le x ys)) ≡ bit (f x) + (bit (f y) + count f ys)
      go true e = refl
      go false e = omega arith

  pub count-sorted : (f : A → Bool) (xs : List A) → count f (sorted le xs) ≡ count f xs
  unfolding count sorted
  count-sorted f [] = refl
  count-sorted f (x ∷ xs) = count-insert f x (sorted le xs) ∙ ap (λ (n : ℕ). bit (f x) + n) (count-sorted f xs)

  pub sorted_same_items : (xs : List A) → SameItems (sorted le xs) xs
  sorted_same_items xs = record { counts = λ f. count-sorted f xs }

  pub in_sorted : (xs : List A) {z : A} → Memᴰ z (sorted le xs) → Memᴰ z xs
  unfolding sorted
  in_sorted [] m = m
  in_sorted (x ∷ xs) {z} m = go (λ k. in_sorted xs k) (insert-is x (sorted le xs) m)
    where
      go : (Memᴰ z (sorted le xs) → Memᴰ z xs) → (z ≡ x) ⊎ Memᴰ z (sorted le xs) → Memᴰ z (x ∷ xs)
      go ih (inl e) = Memᴰ.head e
      go ih (inr k) = Memᴰ.tail (ih k)

  -- ---- the r-th smallest

  -- the items in another order have the same ranks
  pub rank_of_same_items : {r : ℕ} {xs ys : List A} {v : A} → SameItems xs ys → HasRank le r xs v → HasRank le r ys v
  rank_of_same_items {r} {xs} {ys} {v} e h =
      record {
        fewer = subst (λ (n : ℕ). n < r) (e.counts (under le v)) h.fewer;
        enough = subst (λ (n : ℕ). r ≤ n) (e.counts (upto le v)) h.enough;
      }

  pub ranked-has-rank : (d : A) (r : ℕ) (xs : List A) → 1 ≤ r → r ≤ length xs → HasRank le r xs (ranked le d r xs)
  unfolding ranked
  ranked-has-rank d r xs low high =
      let long = same_items_length (sorted_same_items xs) in
      let i : r - 1 < length (sorted le xs) = omega arith in
      let a = rising_fewer (sorted le xs) (rising_sorted xs) (r - 1) d i in
      let b = rising_enough (sorted le xs) (rising_sorted xs) (r - 1) d i in
      rank_of_same_items (sorted_same_items xs) (record { fewer = omega arith; enough = omega arith })

  pub ranked_in : (d : A) (r : ℕ) (xs : List A) → 1 ≤ r → r ≤ length xs → Memᴰ (ranked le d r xs) xs
  unfolding ranked
  ranked_in d r xs low high = in_sorted xs (getD_in (sorted le xs) (r - 1) d (omega (arith, same_items_length (sorted_same_items xs))))

  -- a value that has a rank at all has one from 1 to the number of items
  pub rank_least : {r : ℕ} {xs : List A} {v : A} → HasRank le r xs v → 1 ≤ r
  rank_least h = let a = h.fewer in omega arith

  pub rank_most : {r : ℕ} {xs : List A} {v : A} → HasRank le r xs v → r ≤ length xs
  rank_most {r} {xs} {v} h = let a = h.enough in omega (arith, count-le-length (upto le v) xs)

  -- the counts tell the r-th smallest
  pub rank_by_counts : (d : A) {r : ℕ} {xs : List A} {v : A} → HasRank le r xs v → Level le v (ranked le d r xs)
  rank_by_counts d {r} {xs} h = rank-level h (ranked-has-rank d r xs (rank_least h) (rank_most h))

  -- ---- picking by a pivot p: the rank is among the items below p, or p has it, or the rest of it is among the items above p

  pub rank-among-below : (p : A) {r : ℕ} {xs : List A} {v : A} → HasRank le r (those (under le p) xs) v → HasRank le r xs v
  rank-among-below p {r} {xs} {v} h = go (under le p v) refl
    where
      below : List A
      below = those (under le p) xs

      above : List A
      above = those (not_by (under le p)) xs

      a : count (under le v) below < r
      a = h.fewer

      b : r ≤ count (upto le v) below
      b = h.enough

      clash : T (under le p v) → (x : A) → Memᴰ x above → T (under le v x) → ⊥
      clash vp x m t = T_not (under le p x) (of_those (not_by (under le p)) xs m).1 (under-le x v p t (under-upto v p vp))

      go : (t : Bool) → under le p v ≡ t → HasRank le r xs v
      go true e =
          let vp : T (under le p v) = subst T (sym e) tt in
          let none_above = count-nothing (under le v) above (λ x m. not_T (under le v x) (clash vp x m)) in
          record {
            fewer = omega (arith, count_split (under le v) (under le p) xs);
            enough = omega (arith, count_split (upto le v) (under le p) xs);
          }
      go false e =
          let pv : T (le p v) = not-not (le p v) (subst (λ (t : Bool). T (not t)) (sym e) tt) in
          let all_under = count-all (under le v) below (λ x m. under-le x p v (of_those (under le p) xs m).1 pv) in
          absurd (omega (arith, count-le-length (upto le v) below))

  pub rank-among-above : (p : A) {r : ℕ} {xs : List A} {v : A}
      → count (upto le p) xs < r
      → HasRank le (r - count (upto le p) xs) (those (over le p) xs) v
      → HasRank le r xs v
  rank-among-above p {r} {xs} {v} c h = go (le p v) refl
    where
      below : List A
      below = those (upto le p) xs

      above : List A
      above = those (over le p) xs

      a : count (under le v) above < r - count (upto le p) xs
      a = h.fewer

      b : r - count (upto le p) xs ≤ count (upto le v) above
      b = h.enough

      clash : T (under le p v) → (x : A) → Memᴰ x above → T (upto le v x) → ⊥
      clash vp x m t = T_not (le x p) (of_those (over le p) xs m).1 (o.trans x v p t (under-upto v p vp))

      go : (t : Bool) → le p v ≡ t → HasRank le r xs v
      go true e =
          let pv : T (le p v) = subst T (sym e) tt in
          let all_upto = count-all (upto le v) below (λ x m. o.trans x p v (of_those (upto le p) xs m).1 pv) in
          let long = length-those (upto le p) xs in
          record {
            fewer = omega (arith, count_split (under le v) (upto le p) xs, count-le-length (under le v) below);
            enough = omega (arith, count_split (upto le v) (upto le p) xs);
          }
      go false e =
          let vp : T (under le p v) = subst (λ (t : Bool). T (not t)) (sym e) tt in
          let none_above = count-nothing (upto le v) above (λ x m. not_T (upto le v x) (clash vp x m)) in
          absurd (omega arith)

  pub ranked-below : (d p : A) (r : ℕ) (xs : List A)
      → 1 ≤ r
      → r ≤ count (under le p) xs
      → Level le (ranked le d r (those (under le p) xs)) (ranked le d r xs)
  ranked-below d p r xs low high =
      rank_by_counts d (rank-among-below p (ranked-has-rank d r (those (under le p) xs) low (omega (arith, length-those (under le p) xs))))

  pub ranked_pivot : (d p : A) (r : ℕ) (xs : List A) → count (under le p) xs < r → r ≤ count (upto le p) xs → Level le p (ranked le d r xs)
  ranked_pivot d p r xs low high = rank_by_counts d (record { fewer = low; enough = high })

  pub ranked-above : (d p : A) (r : ℕ) (xs : List A)
      → count (upto le p) xs < r
      → r ≤ length xs
      → Level le (ranked le d (r - count (upto le p) xs) (those (over le p) xs)) (ranked le d r xs)
  ranked-above d p r xs low high =
      rank_by_counts
      d
      (rank-among-above
      p
      low
      (ranked-has-rank
      d
      (r - count (upto le p) xs)
      (those (over le p) xs)
      (omega arith)
      (omega (arith, length-those (over le p) xs, count-not (upto le p) xs))))
