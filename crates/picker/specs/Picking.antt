-- What the picker's parts promise each other, over keys in scratch.
-- Assumes nothing.
use Rattle.std.specs.Prelude.{◌≡◌, Bool, true, false, List, ℕ, ◌≤◌, ◌<◌, leb, length, take}
use Rattle.laws_ranks.specs.Counts.{count}
use Rattle.laws_ranks.specs.Ranks.{HasRank, under, over}
use Rattle.laws_ranks.specs.Middles.{Splits}
use Rattle.picker.specs.declared.scan.Rest.{Rest}

-- a rank r, from 1 to their number, is sought among the keys, with room for as many again
pub record Pickable (keys room : List ℕ) (r : ℕ) : Type 0 where
  pub least : 1 ≤ r
  pub most : r ≤ length keys
  pub enough : length keys ≤ length room

-- how many of the keys are below p, and how many above it
pub record Counted (keys : List ℕ) (p below above : ℕ) : Type 0 where
  pub below-is : below ≡ count (under leb p) keys
  pub above-is : above ≡ count (over leb p) keys

-- a key lies above p, or below it
abbrev pub side : Bool → ℕ → ℕ → Bool
side true p = over leb p
side false p = under leb p

-- a rank r is sought among the keys, which the pivot p splits
pub record Narrowable (keys : List ℕ) (r p : ℕ) : Type 0 where
  pub least : 1 ≤ r
  pub most : r ≤ length keys
  pub splits : Splits leb keys p

-- the rank is sought among the fewer keys that are left at the front, and what has it there has the rank r among all
pub record Narrowed (keys : List ℕ) (r : ℕ) (rest : Rest) (after : List ℕ) : Type 0 where
  pub fewer : rest.n < length keys
  pub least : 1 ≤ rest.r
  pub most : rest.r ≤ rest.n
  pub back : (v : ℕ) → HasRank leb rest.r (take rest.n after) v → HasRank leb r keys v
