-- The positions of samples that lie in two lent lists, by number, for either side: for the lower side norths are negated.
-- Assumes nothing.
use Rattle.std.specs.Prelude.{◌≡◌, Bool, true, false, ◌&&◌, ℕ, ◌<◌, ℤ, pos, neg_ℤ, length, get_or}
use mathlib.Core.List.{List, Memᴰ}
use Rattle.std.specs.Int.Signed.{le_z, lt_z}
use Rattle.whole.specs.Fits.{Within}
use Rattle.rules.specs.Lists.{some_of}
use Rattle.rules.specs.Streams.{Stream, stream, limit}

-- the north that a side counts
abbrev pub faced : Bool → ℤ → ℤ
faced true z = neg_ℤ z
faced false z = z

-- a stream as it is, for the upper side, or mirrored, for the lower
abbrev pub facing : Bool → Stream → Stream
facing lower s = stream s.east (faced lower s.north)

-- the position of sample x on the upper side, or, for lower, on the lower side
abbrev pub at : List ℤ → List ℤ → Bool → ℕ → Stream
at es ns lower x = facing lower (stream (get_or es x (pos 0)) (get_or ns x (pos 0)))

-- its east
abbrev pub east_of : List ℤ → ℕ → ℤ
east_of es x = get_or es x (pos 0)

-- some east is at most a, and some is above a
unfoldable pub easts_span : ℤ → List ℤ → Bool
easts_span a es = some_of (λ e. le_z e a) es && some_of (λ e. lt_z a e) es

-- both parts lie within the limit
pub record Near (s : Stream) : Type 0 where
  pub east_near : Within s.east limit
  pub north_near : Within s.north limit

-- two lists of equal length, every part within the limit
pub record Sampled (es ns : List ℤ) : Type 0 where
  pub even : length es ≡ length ns
  pub east_near : (i : ℕ) → Within (get_or es i (pos 0)) limit
  pub north_near : (i : ℕ) → Within (get_or ns i (pos 0)) limit

-- every listed number is below the count
pub record Listed (count : ℕ) (l : List ℕ) : Type 0 where
  pub below : (x : ℕ) → Memᴰ x l → x < count
