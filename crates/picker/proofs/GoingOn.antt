-- How a pick goes on: with the keys below the pivot, with the pivot, or with the keys above it. The count of keys falls.
-- Assumes nothing.
use mathlib.Core.Path.{◌≡◌}
use mathlib.Core.List.{List}
use Prim.Native.Nat.{ℕ, ◌-◌, ◌≤◌, ◌<◌}
use native.Mathlib.Omega.{arith}
use lib.Dec.{leb}
use lib.ListN.{length}
use Rattle.laws_ranks.specs.Counts.{count, count-not}
use Rattle.laws_ranks.specs.Kept.{Kept}
use Rattle.laws_ranks.specs.Ranks.{HasRank, under, upto, over, rank-among-below, rank-among-above}
use Rattle.laws_ranks.specs.Numbers.{natural_order}
use Rattle.picker.specs.Picking.{Counted, Narrowable, Narrowed}

-- of the keys b lie below the pivot p and a above it
module _ {keys : List ℕ} {r p b a : ℕ} (s : Narrowable keys r p) (c : Counted keys p b a) where
  -- the keys at most p are all but those above it
  upto_is : length keys - a ≡ count (upto leb p) keys
  upto_is = omega (arith, c.above-is, count-not (upto leb p) keys)

  -- the pivot has the rank
  pub narrowed_here : b < r → r ≤ length keys - a → HasRank leb r keys p
  narrowed_here low high = record { fewer = omega (arith, c.below-is); enough = omega (arith, upto_is) }

  module _ {k : ℕ} {after : List ℕ} where
    -- the keys below it have the rank
    pub narrowed_below : r ≤ b → Kept (under leb p) keys k after → Narrowed keys r (record { n = k; r = r }) after
    narrowed_below low kept =
        let some = s.splits.some_from in
        record {
          fewer = omega (arith, kept.number);
          least = s.least;
          most = omega (arith, kept.number, c.below-is);
          back = λ v h. rank-among-below natural_order p (rw kept.front at h);
        }

    -- those above it
    pub narrowed_above : length keys - a < r → Kept (over leb p) keys k after → Narrowed keys r (record { n = k; r = r - (length keys - a) }) after
    narrowed_above high kept =
        let some = s.splits.some_upto in
        let all : k ≡ a = omega (arith, kept.number, c.above-is) in
        let most = s.most in
        record {
          fewer = omega (arith, upto_is);
          least = omega arith;
          most = omega arith;
          back = λ v h. rank-among-above natural_order p (omega (arith, upto_is)) (rw (kept.front, upto_is) at h);
        }
