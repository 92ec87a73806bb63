-- A step by a pivot: the slopes below it are left, or those above it, or none.
-- Assumes nothing.
use Rattle.std.specs.Prelude.{◌≡◌, Bool, ℕ, ◌+◌, ◌-◌, ◌≤◌, ◌<◌, length}
use Rattle.std.proofs.Common.{subst, arith}
use mathlib.Core.List.{List, Memᴰ}
use Rattle.rules.specs.Lists.{those}
use Rattle.rules.specs.Round.{Slope, slope_le}
use Rattle.laws_ranks.specs.Counts.{count, count-not, of_those}
use Rattle.laws_ranks.specs.Ranks.{HasRank, under, upto, over}
use Rattle.slopes.specs.Fractions.{fractions, Pickable}
use Rattle.slopes.specs.Passes.{Kept, Answers, Narrowed}
use Rattle.laws_rounds.specs.Slopes.{slope_order}
use Rattle.slopes.specs.Order.{rank_below_on, rank_above_on, fewer_below, fewer_above}
use Rattle.slopes.specs.ScratchLaws.{length-fractions}
use Rattle.slopes.specs.PassLaws.{forward, kept-count}

module _ {n r : ℕ} {w : List ℕ} {p : Slope} (ask : Pickable n r w) (m : Memᴰ p (fractions n w)) where
  abbrev slopes : List Slope
  slopes = fractions n w

  narrowed_to : {test : Slope → Bool} {v : List ℕ} {k s : ℕ} → length v ≡ length w → Kept test n w v k → k < n → 1 ≤ s → s ≤ k
      → ((x : Slope) → Answers s (those test slopes) x → HasRank slope_le r slopes x) → Narrowed n r w v k s
  narrowed_to {test} {v} {k} {s} long kept fewer low high rank =
      let room = ask.room in
      record {
        fewer = fewer;
        asks = record { rank_low = low; rank-high = high; sound = kept.sound; room = omega arith };
        back =
            λ x a. let b = subst (λ (l : List Slope). Answers s l x) kept.front a in record { isIn = (of_those test slopes b.isIn).0; has-rank = rank x b };
      }

  pub narrowed_below : {v : List ℕ} {b : ℕ} → length v ≡ length w → Kept (under slope_le p) n w v b → r ≤ b → Narrowed n r w v b r
  narrowed_below long kept high =
      narrowed_to long kept (omega (arith, kept-count kept, fewer_below slopes m, length-fractions n w)) ask.rank_low high
      (λ x a. rank_below_on slope_order p (forward ask p m) r x (forward ask x (of_those (under slope_le p) slopes a.isIn).0) slopes (forward ask) a.has-rank)

  -- those that are at most p are all but those above it
  upto-count : {v : List ℕ} {a : ℕ} → Kept (over slope_le p) n w v a → count (upto slope_le p) slopes + a ≡ n
  upto-count kept = omega (arith, kept-count kept, count-not (upto slope_le p) slopes, length-fractions n w)

  pub narrowed_above : {v : List ℕ} {a : ℕ} → length v ≡ length w → Kept (over slope_le p) n w v a → n - a < r → Narrowed n r w v a (r - (n - a))
  narrowed_above {v} {a} long kept low =
      let high = ask.rank-high in
      let e : n - a ≡ count (upto slope_le p) slopes = omega (arith, upto-count kept) in
      narrowed_to long kept (omega (arith, kept-count kept, fewer_above slopes m, length-fractions n w)) (omega arith) (omega arith)
      (λ x b. rank_above_on slope_order p (forward ask p m) r x (forward ask x (of_those (over slope_le p) slopes b.isIn).0) slopes (forward ask)
      (omega arith)
      (subst (λ (j : ℕ). HasRank slope_le (r - j) (those (over slope_le p) slopes) x) e b.has-rank))

  -- the counts alone tell that p has the rank
  pub narrowed_none : {b a : ℕ} → b ≡ count (under slope_le p) slopes → a ≡ count (over slope_le p) slopes → b < r → r ≤ n - a
      → Answers r slopes p
  narrowed_none lower upper low high =
      record {
        isIn = m;
        has-rank = record { fewer = omega arith; enough = omega (arith, count-not (upto slope_le p) slopes, length-fractions n w) };
      }
