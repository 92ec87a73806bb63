-- The laws of picking by a pivot, for a test that is an order only among some items, as slopes are by cross products where their runs are above zero.
-- Assumes nothing.
use Rattle.std.specs.Prelude.{◌≡◌, Bool, cond, not, T, get_or, ◌*ℤ◌}
use Rattle.std.proofs.Math.Path.{refl, ap}
use Rattle.std.proofs.Common.{◌∙◌, subst, le_of_suc-le-suc, not-suc-le-zero, arith, T_not}
use Rattle.std.proofs.Math.Bool.{true, false}
use mathlib.Core.List.{List, [], ◌∷◌, map, Memᴰ}
use Prim.Native.Nat.{ℕ, zero, suc, ◌+◌, ◌-◌, ◌≤◌, ◌<◌}
use Rattle.std.proofs.Math.Dec.{not_T}
use Rattle.std.proofs.Math.ListN.{length}
use Rattle.std.specs.Int.Signed.{≤ℤ_refl}
use Rattle.rules.specs.Lists.{those, consIf, insert, sorted}
use Rattle.rules.specs.Picker.{ranked}
use Rattle.rules.specs.Round.{Slope, slope_le}
use Rattle.laws_rounds.specs.Slopes.{Up, slope_order}
use Rattle.laws_ranks.specs.Counts.{count, not_by, count-all, count-nothing, count_map, count-not, count-le-length, length-those, count_split, of_those, counted}
use Rattle.laws_ranks.specs.Ranks.{not-not, twice, HasRank, Level, under, upto, over, rank-among-below, rank-among-above}
use Rattle.laws_ranks.specs.RanksAmong.{OrderOn, Held, item_of, held_order, rank_of_key, rank_of_item, rank_by_counts_on}

-- ---- picking by a pivot, where the test is an order among the items that P holds of

those-map : {A B : Type 0} (f : B → Bool) (g : A → B) (xs : List A) → those f (map g xs) ≡ map g (those (λ x. f (g x)) xs)
unfolding those
those-map f g [] = refl
those-map {A} {B} f g (x ∷ xs) = go (f (g x)) (those-map f g xs)
  where
    go : (b : Bool) → those f (map g xs) ≡ map g (those (λ x. f (g x)) xs) → consIf b (g x) (those f (map g xs)) ≡ map g (consIf b x (those (λ x. f (g x)) xs))
    go true e = ap (λ (l : List B). g x ∷ l) e
    go false e = e

module _ {A : Type 0} {P : A → Type 0} {le : A → A → Bool} (o : OrderOn P le) where
  -- what is shown of items that P holds of is shown of a list of which each item is one
  held-list : (Q : List A → Type 0) → ((hs : List (Held P)) → Q (map item_of hs)) → (xs : List A) → ((x : A) → Memᴰ x xs → P x) → Q xs
  held-list Q q [] all = q []
  held-list Q q (x ∷ xs) all =
      held-list (λ l. Q (x ∷ l)) (λ hs. q (record { item = x; holds = all x (Memᴰ.head refl) } ∷ hs)) xs (λ y m. all y (Memᴰ.tail m))

  module _ (p : A) (Pp : P p) (r : ℕ) (v : A) (Pv : P v) (xs : List A) (all : (x : A) → Memᴰ x xs → P x) where
    pivot : Held P
    pivot = record { item = p; holds = Pp }

    value : Held P
    value = record { item = v; holds = Pv }

    pub rank_below_on : HasRank le r (those (under le p) xs) v → HasRank le r xs v
    unfolding pivot value
    rank_below_on = held-list (λ l. HasRank le r (those (under le p) l) v → HasRank le r l v) go xs all
      where
        go : (hs : List (Held P)) → HasRank le r (those (under le p) (map item_of hs)) v → HasRank le r (map item_of hs) v
        go hs h =
            rank_of_key item_of le {v = value}
            (rank-among-below (held_order o) pivot
            (rank_of_item item_of le {v = value} (subst (λ (l : List A). HasRank le r l v) (those-map (under le p) item_of hs) h)))

    pub rank_above_on : count (upto le p) xs < r → HasRank le (r - count (upto le p) xs) (those (over le p) xs) v → HasRank le r xs v
    unfolding pivot value
    rank_above_on = held-list (λ l. count (upto le p) l < r → HasRank le (r - count (upto le p) l) (those (over le p) l) v → HasRank le r l v) go xs all
      where
        go : (hs : List (Held P)) → count (upto le p) (map item_of hs) < r
            → HasRank le (r - count (upto le p) (map item_of hs)) (those (over le p) (map item_of hs)) v
            → HasRank le r (map item_of hs) v
        go hs c h =
            let e = count_map (upto le p) item_of hs in
            rank_of_key item_of le {v = value}
            (rank-among-above (held_order o) pivot (subst (λ (n : ℕ). n < r) e c)
            (rank_of_item item_of le {v = value}
            (subst (λ (n : ℕ). HasRank le (r - n) (map item_of (those (λ x. over le p x.item) hs)) v) e
            (subst (λ (l : List A). HasRank le (r - count (upto le p) (map item_of hs)) l v) (those-map (over le p) item_of hs) h))))

-- ---- a bracket: what lies below its lower end is left out and counted, and what lies above its upper end is left out

module _ {A : Type 0} {P : A → Type 0} {le : A → A → Bool} (o : OrderOn P le) (p : A) (Pp : P p) (xs : List A) (all : (x : A) → Memᴰ x xs → P x)
    (r : ℕ) {v : A} where
  pub rank_from_on : Memᴰ v (those (not_by (under le p)) xs) → HasRank le (r - count (under le p) xs) (those (not_by (under le p)) xs) v → HasRank le r xs v
  rank_from_on m h =
      let a = h.fewer in
      let b = h.enough in
      record { fewer = omega (arith, passes (under le v) lower-under); enough = omega (arith, passes (upto le v) lower-upto) }
    where
      k : Memᴰ v xs × T (not (under le p v))
      k = of_those (not_by (under le p)) xs m

      Pv : P v
      Pv = all v k.0

      pv : T (le p v)
      pv = not-not (le p v) k.1

      lower-under : (x : A) → P x → T (under le p x) → T (under le v x)
      lower-under x Px t = not_T (le v x) (λ s. T_not (le p x) t (o.trans p v x Pp Pv Px pv s))

      lower-upto : (x : A) → P x → T (under le p x) → T (upto le v x)
      lower-upto x Px t = o.trans x p v Px Pp Pv (o.total p x Pp Px t) pv

      -- all below p pass
      passes : (g : A → Bool) → ((x : A) → P x → T (under le p x) → T (g x)) → count g xs ≡ count (under le p) xs + count g (those (not_by (under le p)) xs)
      passes g h =
          let below = those (under le p) xs in
          let e = count-all g below (λ x i. let j = of_those (under le p) xs i in h x (all x j.0) j.1) ∙ length-those (under le p) xs in
          omega (arith, count_split g (under le p) xs)

  pub rank_upto_on : Memᴰ v (those (not_by (over le p)) xs) → HasRank le r (those (not_by (over le p)) xs) v → HasRank le r xs v
  rank_upto_on m h =
      let a = h.fewer in
      let b = h.enough in
      record { fewer = omega (arith, passes (under le v) (λ x Px t. o.total v x Pv Px t)); enough = omega (arith, passes (upto le v) (λ x Px t. t)) }
    where
      k : Memᴰ v xs × T (not (over le p v))
      k = of_those (not_by (over le p)) xs m

      Pv : P v
      Pv = all v k.0

      vp : T (le v p)
      vp = not-not (le v p) k.1

      -- none above p passes
      passes : (g : A → Bool) → ((x : A) → P x → T (g x) → T (le x v)) → count g xs ≡ count g (those (not_by (over le p)) xs)
      passes g h =
          let above = those (over le p) xs in
          let e =
          count-nothing g above
          (λ x i. let j = of_those (over le p) xs i in
          let Px = all x j.0 in
          not_T (g x) (λ t. T_not (le x p) j.1 (o.trans x v p Px Pv Pp (h x Px t) vp)))
          in
          omega (arith, count_split g (over le p) xs)

-- ---- the r-th smallest does not depend on what is said where there is none

module _ {A : Type 0} (le : A → A → Bool) where
  length-insert : (x : A) (ys : List A) → length (insert le x ys) ≡ suc (length ys)
  unfolding insert
  length-insert x [] = refl
  length-insert x (y ∷ ys) = go (le x y) (length-insert x ys)
    where
      go : (b : Bool) → length (insert le x ys) ≡ suc (length ys) → length (cond b (x ∷ y ∷ ys) (y ∷ insert le x ys)) ≡ suc (suc (length ys))
      go true e = refl
      go false e = ap suc e

  length-sorted : (xs : List A) → length (sorted le xs) ≡ length xs
  unfolding sorted
  length-sorted [] = refl
  length-sorted (x ∷ xs) = length-insert x (sorted le xs) ∙ ap suc (length-sorted xs)

  at_default : (zs : List A) (k : ℕ) (d e : A) → k < length zs → get_or zs k d ≡ get_or zs k e
  at_default [] k d e h = absurd (not-suc-le-zero h)
  at_default (z ∷ zs) zero d e h = refl
  at_default (z ∷ zs) (suc k) d e h = at_default zs k d e (le_of_suc-le-suc h)

  ranked_default : (d e : A) (r : ℕ) (xs : List A) → 1 ≤ r → r ≤ length xs → ranked le d r xs ≡ ranked le e r xs
  unfolding ranked
  ranked_default d e r xs low high = at_default (sorted le xs) (r - 1) d e (omega (arith, length-sorted xs))

-- ---- slopes

slope_self : (k : Slope) → T (slope_le k k)
unfolding slope_le
slope_self k = (≤ℤ_refl (k.rise *ℤ k.run)).le

-- a slope of the list lies neither below itself nor above
not_itself : (test : Slope → Bool) (ks : List Slope) {k : Slope} → Memᴰ k ks → T (not (test k)) → count test ks < length ks
not_itself test ks m t = omega (arith, count-not test ks, counted (not_by test) ks m t)

pub fewer_below : (ks : List Slope) {k : Slope} → Memᴰ k ks → count (under slope_le k) ks < length ks
fewer_below ks {k} m = not_itself (under slope_le k) ks m (twice (slope_le k k) (slope_self k))

pub fewer_above : (ks : List Slope) {k : Slope} → Memᴰ k ks → count (over slope_le k) ks < length ks
fewer_above ks {k} m = not_itself (over slope_le k) ks m (twice (slope_le k k) (slope_self k))

-- a slope that has rank r is level with the r-th smallest
pub level-ranked : (ks : List Slope) → ((k : Slope) → Memᴰ k ks → Up k) → (r : ℕ) (v : Slope) → Memᴰ v ks → HasRank slope_le r ks v
    → (d : Slope) → Level slope_le v (ranked slope_le d r ks)
level-ranked ks all r v m h d =
    let low : 1 ≤ r = let a = h.fewer in omega arith in
    let high : r ≤ length ks = let b = h.enough in omega (arith, count-le-length (upto slope_le v) ks) in
    subst (Level slope_le v) (ranked_default slope_le v d r ks low high) (rank_by_counts_on slope_order ks all v (all v m) r (all v m) h)
