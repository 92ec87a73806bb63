-- The slopes of the pairs of a list, as words behind it.
-- Assumes nothing.
use Rattle.std.specs.Prelude.{◌≡◌, ℕ, ◌*◌, ◌≤◌, cond, List, length, take, drop, nat_lt}
use Rattle.std.proofs.Math.Option.{none, some}
use Rattle.rules.specs.Streams.{Stream}
use Rattle.rules.specs.Round.{pair, paired, slope_of, slopes}
use Rattle.slopes.specs.Fractions.{fraction, fractions, Sound}
use Rattle.samples.specs.Positions.{Listed}

-- the words of the slope of two positions, ordered by east; the run is 0 where they have none
pub record PairSlope (p q : Stream) (rise run : ℕ) : Type 0 where
  pub rise-high : rise ≤ 4000000
  pub run-high : run ≤ 2000000
  pub is : slope_of (λ s. s) (pair p q) ≡ cond (nat_lt 0 run) (some (fraction rise run)) none

-- a list of t samples at the front of w, with room for its slopes behind it
pub record SlopesAsk (count : ℕ) (w : List ℕ) (t : ℕ) : Type 0 where
  pub listed : Listed count (take t w)
  pub room : 2 * t ≤ length w

-- the q slopes of its pairs stand behind the list, which is as it was
pub record Sloped (at : ℕ → Stream) (w : List ℕ) (t q : ℕ) (after : List ℕ) : Type 0 where
  pub same-list : take t after ≡ take t w
  pub slopes_are : fractions q (drop t after) ≡ slopes at (paired (take t w))
  pub sound : Sound q (drop t after)
  pub few : 2 * q ≤ t
