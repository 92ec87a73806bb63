-- The tops of a list: the keys by which they are found, what the code asks and what its struct says.
-- Assumes nothing.
use Rattle.std.specs.Prelude.{◌≡◌, ℕ, ◌+◌, ◌<◌, ◌≤◌, Bool, cond, List, length, drop, ℤ, pos, ◌+ℤ◌, ◌*ℤ◌, neg_ℤ, int_le, int_lt, nat_lt, slice_index}
use Rattle.rules.specs.Lists.{first_place, best_from}
use Rattle.rules.specs.Streams.{Stream}
use Rattle.rules.specs.Round.{Slope, height, left_top, right_top}
use Rattle.slopes.specs.Fractions.{Near}
use Rattle.samples.specs.Positions.{Listed}
use Rattle.round.specs.declared.scaled.Scaled.{Scaled}
use Rattle.round.specs.declared.scaled.Keys.{Keys}
use Rattle.round.specs.declared.tops.Top.{Top}
use Rattle.round.specs.declared.tops.Tops.{Tops}

-- more than two easts can differ by
abbrev pub spread : ℕ
spread = 2000001

-- the slope of two numbers
abbrev pub slope_by : ℤ → ℤ → Slope
slope_by a b = record { rise = a; run = b }

-- the slope whose heights are those of k times the spread
abbrev pub scaled : Slope → Slope
scaled k = slope_by (k.rise *ℤ pos spread) (k.run *ℤ pos spread)

-- the slope that the code holds scaled
abbrev pub as_scaled : Scaled → Slope
as_scaled s = slope_by s.rise s.run

-- the key of a position by a scaled slope: its height and its east, as a side counts the east. The height decides, and between equal heights the east
abbrev pub key : (ℤ → ℤ) → Slope → Stream → ℤ
key side k s = height k s +ℤ side s.east

-- the keys for the top furthest west and for the one furthest east
pub record KeysAre (k : Slope) (s : Stream) (r : Keys) : Type 0 where
  pub west_is : r.west ≡ key neg_ℤ k s
  pub east_is : r.east ≡ key (λ z. z) k s

-- the sample of the greater key, the earlier of equal ones
abbrev pub better_of : Top → ℤ → ℕ → Top
better_of t k x = cond (int_lt t.key k) (record { key = k; number = x }) t

-- a sample reaches the height of the top so far
abbrev pub reaches : (ℕ → Stream) → Slope → ℕ → ℕ → Bool
reaches at k top x = int_le (height k (at top)) (height k (at x))

-- where the search goes on from place i: there, or in a list of 100 or more at the next sample that reaches the height of the top so far
abbrev pub next_place : (ℕ → Stream) → Slope → ℕ → List ℕ → ℕ → ℕ
next_place at k top list i = i + cond (nat_lt (length list) 100) 0 (first_place (reaches at k top) (drop i list))

-- a list of samples, and a sample
pub record ReachAsks (count : ℕ) (list : List ℕ) (top : ℕ) : Type 0 where
  pub listed : Listed count list
  pub given : top < count

-- a list of samples, not empty, and a slope
pub record TopsAsk (count : ℕ) (list : List ℕ) (K : Slope) : Type 0 where
  pub listed : Listed count list
  pub some : 1 ≤ length list
  pub near : Near K

-- the tops furthest west and furthest east, and their easts
pub record Topped (at : ℕ → Stream) (K : Slope) (list : List ℕ) (t : Tops) : Type 0 where
  pub left_is : t.left ≡ best_from (left_top at K) (slice_index list 0) (drop 1 list)
  pub right_is : t.right ≡ best_from (right_top at K) (slice_index list 0) (drop 1 list)
  pub from_is : t.from ≡ (at t.left).east
  pub to_is : t.to ≡ (at t.right).east
