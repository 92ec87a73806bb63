-- What the passes over slopes in scratch say, of which a pick is made. In each, w is the list as it came and v as it is left.
-- Assumes nothing.
use Rattle.std.specs.Prelude.{◌≡◌, Bool, ℕ, ◌+◌, ◌-◌, ◌*◌, ◌≤◌, ◌<◌, length, get_or, take, drop}
use mathlib.Core.List.{List, Memᴰ}
use Rattle.rules.specs.Lists.{those}
use Rattle.rules.specs.Round.{Slope, slope_le}
use Rattle.laws_ranks.specs.Counts.{count}
use Rattle.laws_ranks.specs.Ranks.{HasRank, under, over}
use Rattle.laws_ranks.specs.Least.{LeastOut}
use Rattle.slopes.specs.Fractions.{fraction, fractions, put, Part, Sound, Pickable, Near}
use Rattle.slopes.specs.declared.Fraction.{Fraction}
use Rattle.slopes.specs.declared.scan.Counts as code

-- k is the slope of two words
pub record Shows (a b : ℕ) (k : Slope) : Type 0 where
  pub is : k ≡ fraction a b
  pub near : Near k

-- f has the words of slope k
pub record Read (w : List ℕ) (k : ℕ) (f : Fraction) : Type 0 where
  pub rise-is : f.rise ≡ get_or w (2 * k) 0
  pub run_is : f.run ≡ get_or w (2 * k + 1) 0

-- the words of slope k lie in the list
pub record Stands (w : List ℕ) (k : ℕ) : Type 0 where
  pub inside : 2 * k + 1 < length w
  pub part : Part (get_or w (2 * k) 0) (get_or w (2 * k + 1) 0)

-- so do those of the first n
pub record Listed (n : ℕ) (w : List ℕ) : Type 0 where
  pub inside : 2 * n ≤ length w
  pub sound : Sound n w

-- and behind them there is room for as many
pub record Roomy (n : ℕ) (w : List ℕ) : Type 0 where
  pub sound : Sound n w
  pub room : 4 * n ≤ length w

-- the same words below m
pub record Alike (m : ℕ) (w v : List ℕ) : Type 0 where
  pub same : (j : ℕ) → j < m → get_or v j 0 ≡ get_or w j 0

-- how many of the first n lie below p, and how many above
pub record Counted (n : ℕ) (w : List ℕ) (p : Slope) (c : code.Counts) : Type 0 where
  pub below-is : c.below ≡ count (under slope_le p) (fractions n w)
  pub above-is : c.above ≡ count (over slope_le p) (fractions n w)

-- of the first n those that pass the test, k of them, at the front
pub record Kept (test : Slope → Bool) (n : ℕ) (w v : List ℕ) (k : ℕ) : Type 0 where
  pub few : k ≤ n
  pub front : fractions k v ≡ those test (fractions n w)
  pub sound : Sound k v

-- those below p at the front, and those above it behind the first n
pub record Parted (n : ℕ) (w v : List ℕ) (p : Slope) (c : code.Counts) : Type 0 where
  pub below-kept : Kept (under slope_le p) n w v c.below
  pub above_kept : Kept (over slope_le p) n w (drop (2 * n) v) c.above

-- of the first n those that pass the test, k of them, from slope m on, and what lies before it as it came
pub record KeptFrom (test : Slope → Bool) (n m : ℕ) (w v : List ℕ) (k : ℕ) : Type 0 where
  pub front : Alike (2 * m) w v
  pub kept : Kept test n w (drop (2 * m) v) k

-- from slope m on, which is the first or lies behind the first n, there is room for as many
pub record Clear (n m : ℕ) (w : List ℕ) : Type 0 where
  pub sound : Sound n w
  pub behind : 1 ≤ m → n ≤ m
  pub room : 2 * (m + n) ≤ length w

-- p is the least of the first n, and the others stand at the front
pub record Lifted (n : ℕ) (w : List ℕ) (p : Slope) (v : List ℕ) : Type 0 where
  pub sound : Sound (n - 1) v
  pub out : LeastOut slope_le (fractions n w) p (fractions (n - 1) v)

-- an answer is one of the slopes and has rank r among them
pub record Answers (r : ℕ) (ks : List Slope) (k : Slope) : Type 0 where
  pub isIn : Memᴰ k ks
  pub has-rank : HasRank slope_le r ks k

-- k of the first n are left at the front, and rank s is sought among them: an answer there is an answer to rank r of the first n
pub record Narrowed (n r : ℕ) (w v : List ℕ) (k s : ℕ) : Type 0 where
  pub fewer : k < n
  pub asks : Pickable k s v
  pub back : (x : Slope) → Answers s (fractions k v) x → Answers r (fractions n w) x

-- what lies behind the first n, lent
abbrev pub behind : ℕ → List ℕ → List ℕ
behind n v = take (length v - 2 * n) (drop (2 * n) v)

-- k of the first n stand behind them, and rank s is sought among these: an answer there is an answer to rank r of the first n
pub record Bracketed (n r : ℕ) (w v : List ℕ) (k s : ℕ) : Type 0 where
  pub asks : Pickable k s (behind n v)
  pub back : (x : Slope) → Answers s (fractions k (behind n v)) x → Answers r (fractions n w) x

-- slope i copied to the place of slope k
abbrev pub copied : List ℕ → ℕ → ℕ → List ℕ
copied w i k = put w k (get_or w (2 * i) 0) (get_or w (2 * i + 1) 0)

-- what lies above i and j lies above both places
pub record Capped (i j low high : ℕ) : Type 0 where
  pub below : (m : ℕ) → i < m → j < m → (low < m) × (high < m)

-- slope i is one of the first n as they came
pub record Copied (n : ℕ) (w v : List ℕ) (i : ℕ) : Type 0 where
  pub place : ℕ
  pub inside : place < n
  pub rise-is : get_or v (2 * i) 0 ≡ get_or w (2 * place) 0
  pub run_is : get_or v (2 * i + 1) 0 ≡ get_or w (2 * place + 1) 0

-- behind the first n stand g of them, at most half as many
pub record Gathered (n : ℕ) (w v : List ℕ) (g : ℕ) : Type 0 where
  pub one : 1 ≤ g
  pub few : 2 * g ≤ n
  pub front : Alike (2 * n) w v
  pub copies : (k : ℕ) → k < g → Copied n w v (n + k)

-- a pivot is one of the first n, and these stand as they came
pub record Pivoted (n : ℕ) (w v : List ℕ) (p : Slope) : Type 0 where
  pub front : Alike (2 * n) w v
  pub isIn : Memᴰ p (fractions n w)
