-- Two rings: their corners at one run of places, the second ring's after the first's, as they are or mirrored; and what the parts of the code
-- say to each other. Assumes nothing.
use Rattle.std.specs.Prelude.{◌≡◌, Bool, true, false, List, ◌++◌, ℕ, suc, ◌+◌, ◌-◌, ◌≤◌, ◌<◌, ℤ, ◌≤ℤ◌, length, get_or}
use Rattle.rules.specs.Streams.{Stream, streams, sample, most}
use Rattle.laws_outline.specs.Under.{Under}
use Rattle.samples.specs.Positions.{facing, Near}
use Rattle.laws_stack.specs.Stack.{With, Before, Upto, Stacked, stays}
use Rattle.laws_stack.specs.DrawnWalk.{Comes}

-- ---- the corners

abbrev pub both : List ℤ → List ℤ → List ℤ → List ℤ → List Stream
both es ns fs ms = streams es ns ++ streams fs ms

abbrev pub count : List ℤ → List ℤ → ℕ
count es fs = length es + length fs

-- two lists of corners that passed their tests: level, and every part within the limit
pub record Corners (es ns fs ms : List ℤ) : Type 0 where
  pub even : length es ≡ length ns
  pub even2 : length fs ≡ length ms
  pub few : count es fs ≤ most
  pub near : (k : ℕ) → Near (sample (both es ns fs ms) k)

module _ (es ns fs ms : List ℤ) where
  abbrev pub corner_at : Bool → ℕ → Stream
  corner_at lower k = facing lower (sample (both es ns fs ms) k)

  -- the corner whose place stands at i in a list of places
  abbrev pub listed_at : Bool → List ℕ → ℕ → Stream
  listed_at lower w i = corner_at lower (get_or w i 0)

-- ---- a stack of corners: the places of t of them at the front of a list

pub record Stand (n : ℕ) (w : List ℕ) (t : ℕ) : Type 0 where
  pub room : t ≤ length w
  pub below : (i : ℕ) → i < t → get_or w i 0 < n

-- the stream s comes to the stack f of t corners, from the west: it is further east than each or straight above it
pub record Coming (f : ℕ → Stream) (t : ℕ) (s : Stream) : Type 0 where
  pub stacked : Stacked f t
  pub before : (i : ℕ) → i < t → Before (f i) s

-- r of them stay
pub record Settled (f : ℕ → Stream) (t : ℕ) (s : Stream) (r : ℕ) : Type 0 where
  pub fewer : r ≤ t
  pub stay : stays f r s ≡ true
  pub under : (i : ℕ) → i < t → Under (With (Upto f r) s) (f i)

-- the corner s comes to the stack f of t corners, and is no further west than any
pub record Next (f : ℕ → Stream) (t : ℕ) (s : Stream) : Type 0 where
  pub stacked : Stacked f t
  pub west : (i : ℕ) → i < t → (f i).east ≤ℤ s.east

-- the topmost corner hides s: s is at its east and not above it. If not, s is further east than each corner or straight above it
pub record Hides (f : ℕ → Stream) (t : ℕ) (s : Stream) (r : Bool) : Type 0 where
  pub hidden : r ≡ true → (0 < t) × (s.east ≡ (f (t - 1)).east) × (s.north ≤ℤ (f (t - 1)).north)
  pub passes : r ≡ false → (i : ℕ) → i < t → Before (f i) s

module _ (es ns fs ms : List ℤ) (lower : Bool) where
  -- the corner at place k came to the stack of t corners at the front of w, which leaves r at the front of w'
  pub record Taken (w : List ℕ) (t k : ℕ) (w' : List ℕ) (r : ℕ) : Type 0 where
    pub comes : Comes (listed_at es ns fs ms lower w) t (corner_at es ns fs ms lower k) (listed_at es ns fs ms lower w') r
    pub stand : Stand (count es fs) w' r
    pub more : r ≤ suc t
