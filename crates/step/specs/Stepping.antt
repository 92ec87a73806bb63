-- What the parts of a chain step ask and say, over a list of t sample numbers at the front of a part of scratch.
-- Assumes nothing.
use Rattle.std.specs.Prelude.{◌≡◌, ◌≢◌, Bool, true, false, ◌&&◌, ℕ, ◌*◌, ◌/◌, ◌≤◌, ◌<◌, ℤ, pos, length, get_or, take, drop, Option, Some, None}
use mathlib.Core.List.{List, map, Memᴰ}
use Rattle.std.specs.Int.Signed.{le_z, lt_z}
use Rattle.whole.specs.Fits.{Within}
use Rattle.rules.specs.Streams.{Stream, streams, mirrored, limit}
use Rattle.rules.specs.Chain.{lowest}
use Rattle.rules.specs.Picker.{rank}
use Rattle.rules.specs.Bridge.{ends, spans}
use Rattle.laws_rounds.specs.Rounds.{Found}
use Rattle.laws_rounds.specs.StepsAtMiddle.{BySteps}
use Rattle.samples.specs.Positions.{at, east_of, Listed}
use Rattle.samples.specs.Sides.{easts, norths}
use Rattle.samples.specs.declared.sides.Side as held
use Rattle.step.specs.Chaining.{Chainable}
use Rattle.step.specs.NumberLists.{beyond_numbers}
use Rattle.step.specs.declared.Split.{Split}
use Rattle.bridge.specs.declared.Ends.{Ends}

-- the samples as a side sees them
abbrev pub side_samples : List ℤ → List ℤ → Bool → List Stream
side_samples es ns true = map mirrored (streams es ns)
side_samples es ns false = streams es ns

-- the lowest sample number at a position of that side
abbrev pub number_at : List ℤ → List ℤ → Bool → Stream → ℕ
number_at es ns lower s = lowest (side_samples es ns lower) s

-- the same of a side that is held by the code
abbrev pub naming : held.Side → Stream → ℕ
naming s = number_at (easts s) (norths s) s.lower

-- ---- the cut

-- a list of two or more, and room behind it for its easts and for picking among them
pub record CutAsks (es : List ℤ) (w : List ℕ) (t : ℕ) : Type 0 where
  pub near : (i : ℕ) → Within (get_or es i (pos 0)) limit
  pub listed : Listed (length es) (take t w)
  pub two : 2 ≤ t
  pub room : 3 * t ≤ length w

-- the middle rank of the easts; the list is as it was
pub record CutSays (es : List ℤ) (w : List ℕ) (t : ℕ) (a : ℤ) (after : List ℕ) : Type 0 where
  pub is : a ≡ rank (t / 2) (map (east_of es) (take t w))
  pub same-list : take t after ≡ take t w

-- ---- the bridge over a

pub record BehindAsks (count : ℕ) (at : ℕ → Stream) (w : List ℕ) (t : ℕ) (a : ℤ) : Type 0 where
  pub listed : Listed count (take t w)
  pub spanned : spans a (map at (take t w)) ≡ true
  pub two : 2 ≤ t
  pub room : 4 * t ≤ length w

-- its ends are the first of the list at their positions; the list is as it was
pub record BehindSays (at : ℕ → Stream) (w : List ℕ) (t : ℕ) (a : ℤ) (b : Ends) (after : List ℕ) : Type 0 where
  pub is : Found at a (take t w) (ends b.left b.right)
  pub same-list : take t after ≡ take t w

-- ---- the two lists

-- the ends of a bridge, and room behind the list for both lists
pub record HalvesAsk (es : List ℤ) (w : List ℕ) (t i j : ℕ) : Type 0 where
  pub listed : Listed (length es) (take t w)
  pub left_below : i < length es
  pub right_below : j < length es
  pub two : 2 ≤ t
  pub room : 4 * t ≤ length w

-- of the list l the right list stands at the front, and the left list behind it
pub record HalvesSay (es : List ℤ) (l : List ℕ) (i j left right : ℕ) (after : List ℕ) : Type 0 where
  pub right_is : take right after ≡ beyond_numbers es false j l
  pub left_is : take left (drop right after) ≡ beyond_numbers es true i l
  pub right_count : right ≡ length (beyond_numbers es false j l)
  pub left-count : left ≡ length (beyond_numbers es true i l)

-- ---- the split at the bridge over a

-- a list that has the positions of p and of q
pub record SplitAsks (es ns : List ℤ) (lower : Bool) (w : List ℕ) (t p q : ℕ) : Type 0 where
  pub listed : Listed (length es) (take t w)
  pub left_below : p < length es
  pub right_below : q < length es
  pub left_given : Memᴰ (at es ns lower p) (map (at es ns lower) (take t w))
  pub right_given : Memᴰ (at es ns lower q) (map (at es ns lower) (take t w))
  pub two : 2 ≤ t
  pub room : 4 * t ≤ length w

pub record SplitAt (es ns : List ℤ) (lower : Bool) (l : List ℕ) (a : ℤ) (i j left right : ℕ) (after : List ℕ) : Type 0 where
  pub found : Found (at es ns lower) a l (ends i j)
  pub halves : HalvesSay es l i j left right after

-- there is no bridge over a where a does not lie from p's east to below q's
abbrev pub SplitSays : List ℤ → List ℤ → Bool → List ℕ → ℕ → ℕ → ℤ → Option Split → List ℕ → Type 0
SplitSays es ns lower l p q a (Some s) after = SplitAt es ns lower l a s.i s.j s.left s.right after
SplitSays es ns lower l p q a None after = (le_z (east_of es p) a && lt_z a (east_of es q)) ≡ false

-- ---- the chain of a list

-- a list from p to q, with room behind it for a step
pub record ChainAsks (es ns : List ℤ) (lower : Bool) (w : List ℕ) (t p q : ℕ) : Type 0 where
  pub listed : Listed (length es) (take t w)
  pub left_below : p < length es
  pub right_below : q < length es
  pub chainable : Chainable (at es ns lower) (number_at es ns lower) (take t w) p q
  pub room : 4 * t ≤ length w

-- the same, whose ends stand at two positions
pub record StepAsks (es ns : List ℤ) (lower : Bool) (w : List ℕ) (t p q : ℕ) : Type 0 where
  pub asks : ChainAsks es ns lower w t p q
  pub far : at es ns lower p ≢ at es ns lower q

-- the rule's steps over the list from p to q give a chain, and the numbers of its corners stand at the front, m of them
pub record ChainIs (at : ℕ → Stream) (number : Stream → ℕ) (l : List ℕ) (p q m : ℕ) (after : List ℕ) : Type 0 where
  pub chain : List Stream
  pub by_steps : BySteps (map at l) (at p) (at q) chain
  pub corners : take m after ≡ map number chain
  pub few : m ≤ length l

-- no step's list lacks its bridge
abbrev pub ChainSays : (ℕ → Stream) → (Stream → ℕ) → List ℕ → ℕ → ℕ → Option ℕ → List ℕ → Type 0
ChainSays at number l p q (Some m) after = ChainIs at number l p q m after
ChainSays at number l p q None after = ⊥
