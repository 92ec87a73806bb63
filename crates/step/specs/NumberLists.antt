-- The lists of a chain step as lists of sample numbers, and what the passes that write them ask and say.
-- Assumes nothing.
use Rattle.std.specs.Prelude.{◌≡◌, Bool, true, false, ◌&&◌, List, ◌∷◌, ℕ, ◌+◌, ◌≤◌, ◌<◌, ℤ, length, take, drop}
use Rattle.std.specs.Int.Signed.{lt_z}
use Rattle.rules.specs.Lists.{those}
use Rattle.laws_rounds.specs.WholeList.{numbers}
use Rattle.samples.specs.Positions.{Listed, east_of}

-- strictly between two easts
abbrev pub between : ℤ → ℤ → ℤ → Bool
between from to x = lt_z from x && lt_z x to

-- west of a, or else east of it
abbrev pub past : Bool → ℤ → ℤ → Bool
past true a x = lt_z x a
past false a x = lt_z a x

-- the first list: the ends p and q and all samples strictly between in east
abbrev pub first_numbers : List ℤ → ℕ → ℕ → List ℕ
first_numbers es p q = p ∷ q ∷ those (λ x. between (east_of es p) (east_of es q) (east_of es x)) (numbers (length es))

-- x, then all of the list that lie west of it, or else east of it
abbrev pub beyond_numbers : List ℤ → Bool → ℕ → List ℕ → List ℕ
beyond_numbers es west x l = x ∷ those (λ y. past west (east_of es x) (east_of es y)) l

-- ---- what a pass asks

-- the two ends of the samples, and room for their list
pub record FirstAsks (es : List ℤ) (w : List ℕ) (p q : ℕ) : Type 0 where
  pub few : length es ≤ 65536
  pub room : length es + 2 ≤ length w
  pub left_below : p < length es
  pub right_below : q < length es

-- a list of t numbers at the front of w, and room for as many from `to` on
pub record PassAsks (es : List ℤ) (w : List ℕ) (t to : ℕ) : Type 0 where
  pub listed : Listed (length es) (take t w)
  pub behind : t ≤ to
  pub room : to + t ≤ length w

-- the same, with a first number x of the list to be written
pub record BeyondAsks (es : List ℤ) (w : List ℕ) (t to x : ℕ) : Type 0 where
  pub listed : Listed (length es) (take t w)
  pub behind : t ≤ to
  pub room : to + t < length w
  pub below : x < length es

pub record EastsAsk (es : List ℤ) (w : List ℕ) (t : ℕ) : Type 0 where
  pub listed : Listed (length es) (take t w)
  pub room : t + t ≤ length w

-- ---- what a pass says

-- the k numbers of the list l that pass the test stand at `to` and after it, and what lies before is as it was
pub record Passed (test : ℕ → Bool) (l w : List ℕ) (to k : ℕ) (after : List ℕ) : Type 0 where
  pub before : take to after ≡ take to w
  pub part : take k (drop to after) ≡ those test l
  pub few : k ≤ length l

-- the list stands at the front, t numbers
pub record Listing (l : List ℕ) (t : ℕ) (after : List ℕ) : Type 0 where
  pub front : take t after ≡ l
  pub inside : t ≤ length after

-- the list stands at `to` and after it, k numbers, and what lies before is as it was
pub record Beyond (l w : List ℕ) (to k : ℕ) (after : List ℕ) : Type 0 where
  pub before : take to after ≡ take to w
  pub part : take k (drop to after) ≡ l
  pub inside : to + k ≤ length after
