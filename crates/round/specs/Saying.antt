-- What a round asks, and what it says: the bridge, or the list that it keeps, which lies at the front.
-- Assumes nothing.
use Rattle.std.specs.Prelude.{◌≡◌, ℕ, ◌*◌, ◌≤◌, List, length, take, drop, ℤ, slice_index}
use Rattle.rules.specs.Streams.{Stream}
use Rattle.rules.specs.Bridge.{ends}
use Rattle.rules.specs.Round as rules
use Rattle.slopes.specs.Fractions.{Near}
use Rattle.samples.specs.Positions.{Listed}
use Rattle.round.specs.declared.turn.Said.{Said}
use Rattle.round.specs.declared.turn.Said.TheVariants.{Found, Kept}

-- the rules' word for what is said, where w is left
abbrev pub said_as : Said → List ℕ → rules.Said ℕ
said_as (Found i j) w = rules.found (ends i j)
said_as (Kept m) w = rules.kept (take m w)

-- how many numbers are kept
abbrev pub kept_count : Said → ℕ
kept_count (Found i j) = 0
kept_count (Kept m) = m

-- a list of t samples, two or more, at the front of w, with room behind it for the slopes of its pairs and for picking among these
pub record RoundAsks (count : ℕ) (w : List ℕ) (t : ℕ) : Type 0 where
  pub listed : Listed count (take t w)
  pub two : 2 ≤ t
  pub room : 3 * t ≤ length w

-- the round of the list at a
pub record RoundSays (at : ℕ → Stream) (a : ℤ) (w : List ℕ) (t : ℕ) (said : Said) (after : List ℕ) : Type 0 where
  pub is : said_as said after ≡ rules.round at a (take t w)
  pub fewer : kept_count said ≤ t

-- the same with K
pub record FinishAsks (count : ℕ) (w : List ℕ) (t : ℕ) (K : rules.Slope) : Type 0 where
  pub listed : Listed count (take t w)
  pub one : 1 ≤ t
  pub room : t ≤ length w
  pub near : Near K

pub record FinishSays (at : ℕ → Stream) (a : ℤ) (K : rules.Slope) (w : List ℕ) (t : ℕ) (said : Said) (after : List ℕ) : Type 0 where
  pub is : said_as said after ≡ rules.round_with at a K (slice_index (take t w) 0) (drop 1 (take t w))
  pub fewer : kept_count said ≤ t
