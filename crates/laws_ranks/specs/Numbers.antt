-- Ranks of signed numbers and of natural numbers: their tests are orders in which only equal numbers are level, so the counts tell the rank itself.
-- Assumes nothing.
use Rattle.std.specs.Prelude.{◌≡◌, refl, not, ℕ, ◌-◌, ◌/◌, ◌≤◌, ◌<◌, ℤ, pos, negsuc, T, leb, ltb, length}
use Rattle.std.proofs.Common.{ap, le_trans, le_antisymm, le_of_lt, arith, leb→le, le→leb, ltb→lt, lt→ltb}
use mathlib.Core.List.{List, Memᴰ}
use Rattle.std.specs.Int.Signed.{le_z, lt_z}
use Rattle.std.proofs.Math.Dec.{not_T, nleb→lt}
use Rattle.rules.specs.Lists.{those}
use Rattle.rules.specs.Picker.{ranked, rank}
use Rattle.laws_ranks.specs.Counts.{same_test, count, count-not}
use Rattle.laws_ranks.specs.Ranks.{Order, HasRank, Level, under, upto, over, ranked-has-rank, ranked_in, rank_by_counts, ranked-below, ranked-above}

-- ---- natural numbers

pub natural_order : Order leb
natural_order =
    record {
      total = λ x y t. le→leb y x (le_of_lt (nleb→lt x y t));
      trans = λ x y z h k. le→leb x z (le_trans (leb→le x y h) (leb→le y z k));
    }

pub natural_level : {v w : ℕ} → Level leb v w → v ≡ w
natural_level {v} {w} h = le_antisymm (leb→le v w h.low) (leb→le w v h.high)

-- x < v as a test
pub natural_under : (v x : ℕ) → ltb x v ≡ under leb v x
natural_under v x =
    same_test (ltb x v) (under leb v x) (λ t. not_T (leb v x) (λ u. clash (ltb→lt x v t) (leb→le v x u))) (λ t. lt→ltb x v (nleb→lt v x t))
  where
    clash : x < v → v ≤ x → ⊥
    clash a b = omega arith

pub natural_rank_is : (d : ℕ) {r : ℕ} {xs : List ℕ} {v : ℕ} → HasRank leb r xs v → v ≡ ranked leb d r xs
natural_rank_is d h = natural_level (rank_by_counts natural_order d h)

-- ---- signed numbers

total_Z : (x y : ℤ) → T (not (le_z x y)) → T (le_z y x)
total_Z (pos a) (pos b) t = le→leb b a (le_of_lt (nleb→lt a b t))
total_Z (pos a) (negsuc b) t = tt
total_Z (negsuc a) (pos b) t = t
total_Z (negsuc a) (negsuc b) t = le→leb a b (le_of_lt (nleb→lt b a t))

trans_Z : (x y z : ℤ) → T (le_z x y) → T (le_z y z) → T (le_z x z)
trans_Z (pos a) (pos b) (pos c) h k = le→leb a c (le_trans (leb→le a b h) (leb→le b c k))
trans_Z (pos a) (pos b) (negsuc c) h k = k
trans_Z (pos a) (negsuc b) z h k = absurd h
trans_Z (negsuc a) (pos b) (pos c) h k = tt
trans_Z (negsuc a) (pos b) (negsuc c) h k = absurd k
trans_Z (negsuc a) (negsuc b) (pos c) h k = tt
trans_Z (negsuc a) (negsuc b) (negsuc c) h k = le→leb c a (le_trans (leb→le c b k) (leb→le b a h))

pub whole_order : Order le_z
whole_order = record { total = total_Z; trans = trans_Z }

same_Z : (x y : ℤ) → T (le_z x y) → T (le_z y x) → x ≡ y
same_Z (pos a) (pos b) h k = ap pos (le_antisymm (leb→le a b h) (leb→le b a k))
same_Z (pos a) (negsuc b) h k = absurd h
same_Z (negsuc a) (pos b) h k = absurd k
same_Z (negsuc a) (negsuc b) h k = ap negsuc (le_antisymm (leb→le a b k) (leb→le b a h))

pub whole_level : {v w : ℤ} → Level le_z v w → v ≡ w
whole_level {v} {w} h = same_Z v w h.low h.high

-- x < v as a test
pub whole_under : (v x : ℤ) → lt_z x v ≡ under le_z v x
whole_under (pos v) (pos x) = natural_under v x
whole_under (pos v) (negsuc x) = refl
whole_under (negsuc v) (pos x) = refl
whole_under (negsuc v) (negsuc x) = natural_under x v

pub rank-has-rank : (r : ℕ) (xs : List ℤ) → 1 ≤ r → r ≤ length xs → HasRank le_z r xs (rank r xs)
unfolding rank
rank-has-rank r xs low high = ranked-has-rank whole_order (pos 0) r xs low high

pub rank_in : (r : ℕ) (xs : List ℤ) → 1 ≤ r → r ≤ length xs → Memᴰ (rank r xs) xs
unfolding rank
rank_in r xs low high = ranked_in whole_order (pos 0) r xs low high

pub rank_is : {r : ℕ} {xs : List ℤ} {v : ℤ} → HasRank le_z r xs v → v ≡ rank r xs
unfolding rank
rank_is h = whole_level (rank_by_counts whole_order (pos 0) h)

-- the cut of a list of t: fewer than t/2 items lie below the rank t/2, at least t/2 are at most it, and so at most t - t/2 lie above
pub record Halves (xs : List ℤ) (a : ℤ) : Type 0 where
  pub isIn : Memᴰ a xs
  pub below : count (under le_z a) xs < length xs / 2
  pub at_most : length xs / 2 ≤ count (upto le_z a) xs
  pub above : count (over le_z a) xs ≤ length xs - length xs / 2

pub rank_halves : (xs : List ℤ) → 2 ≤ length xs → Halves xs (rank (length xs / 2) xs)
rank_halves xs h =
    let r = length xs / 2 in
    let k = rank-has-rank r xs (omega arith) (omega arith) in
    let a = k.fewer in
    let b = k.enough in
    record {
      isIn = rank_in r xs (omega arith) (omega arith);
      below = a;
      at_most = b;
      above = omega (arith, count-not (upto le_z (rank r xs)) xs);
    }

-- picking by a pivot p

pub rank_below : (p : ℤ) (r : ℕ) (xs : List ℤ) → 1 ≤ r → r ≤ count (under le_z p) xs → rank r (those (under le_z p) xs) ≡ rank r xs
unfolding rank
rank_below p r xs low high = whole_level (ranked-below whole_order (pos 0) p r xs low high)

pub rank_pivot : (p : ℤ) (r : ℕ) (xs : List ℤ) → count (under le_z p) xs < r → r ≤ count (upto le_z p) xs → p ≡ rank r xs
rank_pivot p r xs low high = rank_is (record { fewer = low; enough = high })

pub rank-above : (p : ℤ) (r : ℕ) (xs : List ℤ)
    → count (upto le_z p) xs < r
    → r ≤ length xs
    → rank (r - count (upto le_z p) xs) (those (over le_z p) xs) ≡ rank r xs
unfolding rank
rank-above p r xs low high = whole_level (ranked-above whole_order (pos 0) p r xs low high)
