-- The rule's own way to pick over a list of any length: its pivot is the middle of the middles of groups of five, and the pick goes on with the side that
-- has the rank; fewer than five items have no group. It gives the rank, so that any other way to the rank gives the same.
-- Assumes nothing.
use Rattle.std.specs.Prelude.{◌≡◌, Bool, true, false, cond, ℤ, pos, leb, ltb}
use Rattle.std.proofs.Math.Path.{refl}
use mathlib.Core.List.{List}
use Prim.Native.Nat.{ℕ, zero, suc, ◌-◌, ◌≤◌}
use Rattle.std.proofs.Common.{arith, leb-true, leb-false, ltb-false}
use Rattle.std.specs.Int.Signed.{le_z}
use Rattle.std.proofs.Math.ListN.{length}
use Rattle.rules.specs.Lists.{those}
use Rattle.rules.specs.Picker.{ranked, rank}
use Rattle.laws_ranks.specs.Counts.{count, count-not, length-those}
use Rattle.laws_ranks.specs.Ranks.{Order, Level, under, upto, over, level_self, level_trans, ranked-below, ranked_pivot, ranked-above}
use Rattle.laws_ranks.specs.Numbers.{whole_order, whole_level}
use Rattle.laws_ranks.specs.Middles.{Splits, middle_of_middles, middle_of_middles_splits}

-- the item of rank r, by at most so many pivots
unfoldable pub picked : {A : Type 0} → (A → A → Bool) → A → ℕ → ℕ → List A → A
picked le d zero r xs = d
picked le d (suc n) r xs =
    let p = middle_of_middles le d xs in
    let upto_p = count (upto le p) xs in
    cond (ltb (length xs) 5) (ranked le d r xs)
    (cond (leb r (count (under le p) xs)) (picked le d n r (those (under le p) xs))
    (cond (leb r upto_p) p (picked le d n (r - upto_p) (those (over le p) xs))))

module _ {A : Type 0} {le : A → A → Bool} (o : Order le) (d : A) where
  pub picked-level : (n r : ℕ) (xs : List A) → length xs ≤ n → 1 ≤ r → r ≤ length xs → Level le (picked le d n r xs) (ranked le d r xs)
  unfolding picked
  picked-level zero r xs few low high = absurd (omega arith)
  picked-level (suc n) r xs few low high = go (ltb (length xs) 5) refl (λ s ys. picked-level n s ys)
    where
      Picks : Type 0
      Picks = (s : ℕ) (ys : List A) → length ys ≤ n → 1 ≤ s → s ≤ length ys → Level le (picked le d n s ys) (ranked le d s ys)

      p : A
      p = middle_of_middles le d xs

      below : List A
      below = those (under le p) xs

      above : List A
      above = those (over le p) xs

      side : Picks → Splits le xs p → (b : Bool) → leb r (count (under le p) xs) ≡ b → (c : Bool) → leb r (count (upto le p) xs) ≡ c
          → Level le (cond b (picked le d n r below) (cond c p (picked le d n (r - count (upto le p) xs) above))) (ranked le d r xs)
      side ih s true e c f =
          let few_below = leb-true r (count (under le p) xs) e in
          level_trans o
          (ih r below (omega (arith, length-those (under le p) xs, s.some_from)) low (omega (arith, length-those (under le p) xs)))
          (ranked-below o d p r xs low few_below)
      side ih s false e true f = ranked_pivot o d p r xs (omega (arith, leb-false r (count (under le p) xs) e)) (leb-true r (count (upto le p) xs) f)
      side ih s false e false f =
          let past = leb-false r (count (upto le p) xs) f in
          level_trans o
          (ih (r - count (upto le p) xs) above (omega (arith, length-those (over le p) xs, count-not (upto le p) xs, s.some_upto)) (omega arith)
          (omega (arith, length-those (over le p) xs, count-not (upto le p) xs)))
          (ranked-above o d p r xs past high)

      go : (b : Bool) → ltb (length xs) 5 ≡ b → Picks
          → Level le (cond b (ranked le d r xs) (cond (leb r (count (under le p) xs)) (picked le d n r below)
          (cond (leb r (count (upto le p) xs)) p (picked le d n (r - count (upto le p) xs) above)))) (ranked le d r xs)
      go true e ih = level_self o (ranked le d r xs)
      go false e ih =
          side ih (middle_of_middles_splits o d xs (ltb-false (length xs) 5 e)) (leb r (count (under le p) xs)) refl (leb r (count (upto le p) xs)) refl

-- THE LAW: of numbers it is the rank itself
pub picked-rank : (r : ℕ) (xs : List ℤ) → 1 ≤ r → r ≤ length xs → picked le_z (pos 0) (length xs) r xs ≡ rank r xs
unfolding rank
picked-rank r xs low high = whole_level (picked-level whole_order (pos 0) (length xs) r xs (omega arith) low high)
