-- "A stream is an east part and a north part, signed whole numbers .. each from -1,000,000 to 1,000,000." Samples, their numbers, the limits,
-- and sidedness, the one place where products of differences are formed.
-- Assumes nothing.
use Rattle.std.specs.Prelude.{Bool, ◌&&◌, not, List, [], ◌∷◌, ℕ, ℤ, pos, neg_ℤ, nat_abs, ◌-ℤ◌, ◌*ℤ◌, leb, get_or}
pub use Rattle.whole.specs.Laws.{eqZ}

pub record Stream : Type 0 where
  pub east : ℤ
  pub north : ℤ

abbrev pub stream : ℤ → ℤ → Stream
stream e n = record { east = e; north = n }

-- "Samples come as two lent lists .. one east, one north"
unfoldable pub streams : List ℤ → List ℤ → List Stream
streams [] ns = []
streams (e ∷ es) [] = []
streams (e ∷ es) (n ∷ ns) = stream e n ∷ streams es ns

-- "A sample's number is its place from 0." The stream of sample i
abbrev pub sample : List Stream → ℕ → Stream
sample xs i = get_or xs i (stream (pos 0) (pos 0))

-- ---- limits

-- each part lies from -limit to limit
abbrev pub limit : ℕ
limit = 1000000

-- at most so many samples, list items, corners
abbrev pub most : ℕ
most = 65536

unfoldable pub within : ℤ → Bool
within z = leb (nat_abs z) limit

-- a stream with a part beyond the limit
unfoldable pub beyond : Stream → Bool
beyond p = not (within p.east && within p.north)

-- ---- position

-- two streams stand at one position
unfoldable pub same : Stream → Stream → Bool
same p q = eqZ p.east q.east && eqZ p.north q.north

-- "with every north negated"
abbrev pub mirrored : Stream → Stream
mirrored p = stream p.east (neg_ℤ p.north)

-- "with both signs changed"
abbrev pub turned : Stream → Stream
turned p = stream (neg_ℤ p.east) (neg_ℤ p.north)

-- ---- sidedness

-- "a product of differences: east difference times north difference, less the crossed product". Above zero where r is left of the way from p to q,
-- below zero where it is right of it. Where p is west of q, a stream at or below zero lies on or below the line from p to q
unfoldable pub side : Stream → Stream → Stream → ℤ
side p q r = (q.east -ℤ p.east) *ℤ (r.north -ℤ p.north) -ℤ (q.north -ℤ p.north) *ℤ (r.east -ℤ p.east)
