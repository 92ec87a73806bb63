-- Slopes as they lie in scratch, two words each, and what a pick among them says.
-- Assumes nothing.
use mathlib.Core.List.{List, [], ◌∷◌, ◌++◌, Memᴰ}
use Rattle.std.specs.Prelude.{ℕ, zero, suc, ◌+◌, ◌*◌, ◌≤◌, ◌<◌, pos, ◌-ℤ◌, ◌<ℤ◌, length, get_or, set}
use Rattle.whole.specs.Fits.{Within}
use Rattle.rules.specs.Picker.{ranked}
use Rattle.rules.specs.Round.{Slope, slope_le}
use Rattle.laws_ranks.specs.Ranks.{HasRank, Level}
use Rattle.slopes.specs.declared.Slope as code

-- a slope of the code
abbrev pub as_slope : code.Slope → Slope
as_slope s = record { rise = s.rise; run = s.run }

-- the slope of two words: the rise is the first less 2,000,000, the run is the second
abbrev pub fraction : ℕ → ℕ → Slope
fraction a b = record { rise = pos a -ℤ pos 2000000; run = pos b }

-- slope k: the words 2k and 2k + 1
abbrev pub fraction_at : List ℕ → ℕ → Slope
fraction_at w k = fraction (get_or w (2 * k) 0) (get_or w (2 * k + 1) 0)

-- the q slopes at the front
unfoldable pub fractions : ℕ → List ℕ → List Slope
fractions zero w = []
fractions (suc k) w = fractions k w ++ (fraction_at w k ∷ [])

-- the words a and b written as slope k
unfoldable pub put : List ℕ → ℕ → ℕ → ℕ → List ℕ
put w k a b = set (set w (2 * k) a) (2 * k + 1) b

-- two words of a slope whose run is above zero, rise and run within 2,000,000
pub record Part (a b : ℕ) : Type 0 where
  pub rise-high : a ≤ 4000000
  pub run_low : 1 ≤ b
  pub run-high : b ≤ 2000000

-- the first q are such slopes
pub record Sound (q : ℕ) (w : List ℕ) : Type 0 where
  pub part : (k : ℕ) → k < q → Part (get_or w (2 * k) 0) (get_or w (2 * k + 1) 0)

-- what a pick of rank r asks: the rank is from 1 to q, and behind the slopes there is room for as many
pub record Pickable (q r : ℕ) (w : List ℕ) : Type 0 where
  pub rank_low : 1 ≤ r
  pub rank-high : r ≤ q
  pub sound : Sound q w
  pub room : 4 * q ≤ length w

-- the run above zero, rise and run within 2,000,000
pub record Near (k : Slope) : Type 0 where
  pub rise_near : Within k.rise 2000000
  pub run_near : Within k.run 2000000
  pub forward : pos 0 <ℤ k.run

-- what a pick says: the slope is one of them, fewer than r are below it and at least r are at most it, and so it is level with the r-th smallest
pub record Picked (r : ℕ) (ks : List Slope) (k : Slope) : Type 0 where
  pub isIn : Memᴰ k ks
  pub near : Near k
  pub has-rank : HasRank slope_le r ks k
  pub is-ranked : (d : Slope) → Level slope_le k (ranked slope_le d r ks)
