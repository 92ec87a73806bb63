-- What the pairs of a list keep, as the code finds it.
-- Assumes nothing.
use Rattle.std.specs.Prelude.{◌≡◌, ℕ, ◌<◌, ◌≤◌, Bool, cond, List, [], length, take, ℤ, ◌-ℤ◌, ◌*ℤ◌}
use Rattle.rules.specs.Lists.{consIf}
use Rattle.rules.specs.Streams.{Stream}
use Rattle.rules.specs.Round.{Slope, Tops, west, east, paired, keep}
use Rattle.slopes.specs.Fractions.{Near}
use Rattle.samples.specs.Positions.{Listed}

-- how much steeper than K the way from p to q is, times K's run and the way's
abbrev pub excess : Slope → Stream → Stream → ℤ
excess K p q = (q.north -ℤ p.north) *ℤ K.run -ℤ K.rise *ℤ (q.east -ℤ p.east)

-- the tops lie west, or else east
abbrev pub towards : Bool → Slope → Tops
towards b K = cond b (west K) (east K)

-- those of a pair that are kept
abbrev pub chosen : Bool → Bool → ℕ → ℕ → List ℕ
chosen first second x y = consIf first x (consIf second y [])

-- a pair of so many samples and a slope
pub record PairAsks (count x y : ℕ) (K : Slope) : Type 0 where
  pub first_below : x < count
  pub second_below : y < count
  pub near : Near K

-- a list of so many samples and a slope
pub record KeepAsks (count : ℕ) (list : List ℕ) (K : Slope) : Type 0 where
  pub listed : Listed count list
  pub near : Near K

-- what the pairs keep lies at the front, m numbers
pub record KeptFront (at : ℕ → Stream) (t : Tops) (list : List ℕ) (m : ℕ) (after : List ℕ) : Type 0 where
  pub front : take m after ≡ keep at t (paired list)
  pub fewer : m ≤ length list
