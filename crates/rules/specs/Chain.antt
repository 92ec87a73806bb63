-- "Upper chain: the left end has the least east and, among those, the greatest north; the right end has the greatest east and, among those, the
-- greatest north. Between them, left to right, stand the positions where the outline turns strictly right. A sample in the middle of an edge is no
-- corner. No sample lies above the chain. Lower chain: the same with every north negated, listed left to right. A corner is reported by the lowest
-- sample number at its position. No samples: both chains empty."
-- First what a chain is, said of any set of samples, then a function that computes it. That the computed chain is one, and the only one, are laws:
-- `upper_is` and `upper_only` of `laws_outline` Chains.
-- Assumes nothing.
use Rattle.std.specs.Prelude.{◌≡◌, Bool, ◌||◌, ◌&&◌, ℕ, zero, suc, pos, ◌≤ℤ◌, ◌<ℤ◌, length}
use Rattle.std.proofs.Math.Option.{Option, none, some}
use mathlib.Core.List.{List, [], ◌∷◌, map, Memᴰ}
use Rattle.std.specs.Int.Signed.{lt_z}
use Rattle.rules.specs.Lists.{those, best, first_place}
use Rattle.rules.specs.Streams.{Stream, side, eqZ, same, mirrored}

-- ---- what a chain is

-- a set of samples: `S p` says that some sample is the stream p
abbrev pub Samples : Type 1
Samples = Stream → Type 0

-- the samples of a list
abbrev pub Of : List Stream → Samples
Of xs p = Memᴰ p xs

-- "the least east and, among those, the greatest north"
pub record LeftEnd (S : Samples) (p : Stream) : Type 0 where
  pub given : S p
  pub least : (s : Stream) → S s → p.east ≤ℤ s.east
  pub greatest : (s : Stream) → S s → s.east ≡ p.east → s.north ≤ℤ p.north

-- "the greatest east and, among those, the greatest north"
pub record RightEnd (S : Samples) (p : Stream) : Type 0 where
  pub given : S p
  pub most : (s : Stream) → S s → s.east ≤ℤ p.east
  pub greatest : (s : Stream) → S s → s.east ≡ p.east → s.north ≤ℤ p.north

-- an edge of the chain, left to right: two samples, and "no sample lies above" its line
pub record Edge (S : Samples) (p q : Stream) : Type 0 where
  pub from : S p
  pub to : S q
  pub ahead : p.east <ℤ q.east
  pub below : (s : Stream) → S s → side p q s ≤ℤ pos 0

-- at q, come to from p, "the outline turns strictly right" to the next corner, if there is one
abbrev pub Turn : Stream → Stream → List Stream → Type 0
Turn p q [] = Unit {0}
Turn p q (r ∷ C) = side p q r <ℤ pos 0

-- from the corner p on the chain goes over the corners C to the right end
pub data Goes (S : Samples) : Stream → List Stream → Type 0 where
  stop : {p : Stream} → RightEnd S p → Goes S p []
  on : {p q : Stream} {C : List Stream} → Edge S p q → Turn p q C → Goes S q C → Goes S p (q ∷ C)

-- C is the upper chain of the samples S
pub data UpperChain (S : Samples) : List Stream → Type 0 where
  empty : ((s : Stream) → S s → ⊥) → UpperChain S []
  starts : {p : Stream} {C : List Stream} → LeftEnd S p → Goes S p C → UpperChain S (p ∷ C)

-- ---- a chain computed

-- x is nearer the left end than y
unfoldable pub leftmost : Stream → Stream → Bool
leftmost x y = lt_z x.east y.east || eqZ x.east y.east && lt_z y.north x.north

-- x is nearer the right end than y
unfoldable pub rightmost : Stream → Stream → Bool
rightmost x y = lt_z y.east x.east || eqZ x.east y.east && lt_z y.north x.north

unfoldable pub left_end : List Stream → Option Stream
left_end xs = best leftmost xs

unfoldable pub right_end : List Stream → Option Stream
right_end xs = best rightmost xs

-- seen from p, x lies above the line to y, or on it and further east
unfoldable pub furthest_round : Stream → Stream → Stream → Bool
furthest_round p x y = lt_z (pos 0) (side p y x) || eqZ (side p y x) (pos 0) && lt_z y.east x.east

-- the corner after p: of the samples further east the one furthest round
unfoldable pub next_corner : Stream → List Stream → Option Stream
next_corner p xs = best (furthest_round p) (those (λ s. lt_z p.east s.east) xs)

-- the corners from a first one on, at most so many
unfoldable pub corners : ℕ → Option Stream → List Stream → List Stream
corners zero first xs = []
corners (suc n) none xs = []
corners (suc n) (some p) xs = p ∷ corners n (next_corner p xs) xs

unfoldable pub upper : List Stream → List Stream
upper xs = corners (length xs) (left_end xs) xs

unfoldable pub lower : List Stream → List Stream
lower xs = map mirrored (upper (map mirrored xs))

-- ---- numbers

-- "the lowest sample number at its position"
unfoldable pub lowest : List Stream → Stream → ℕ
lowest xs p = first_place (same p) xs

-- both chains as they are reported
unfoldable pub upper_numbers : List Stream → List ℕ
upper_numbers xs = map (lowest xs) (upper xs)

unfoldable pub lower_numbers : List Stream → List ℕ
lower_numbers xs = map (lowest xs) (lower xs)
