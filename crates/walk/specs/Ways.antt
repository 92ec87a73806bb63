-- A way over corners of each of two rings, both from west to east, so that all corners are under them; and what the parts of the code say to each other of
-- the walk over both. Assumes nothing.
use Rattle.std.specs.Prelude.{◌≡◌, Bool, true, false, cond, List, ℕ, suc, ◌+◌, ◌-◌, ◌≤◌, ◌<◌, eqb, ℤ, ◌≤ℤ◌, length}
use Rattle.std.proofs.Common.{inl, inr, arith}
use Rattle.rules.specs.Streams.{Stream}
use Rattle.rules.specs.Chain.{UpperChain}
use Rattle.laws_outline.specs.Under.{Under}
use Rattle.laws_stack.specs.Places.{listed}
use Rattle.laws_stack.specs.Stack.{Upto}
use Rattle.laws_stack.specs.DrawnWalk.{Seen, East, Draws, Walk}
use Rattle.walk.specs.declared.draw.Way.{Way}
use Rattle.walk.specs.TwoRings.{Corners, count, corner_at, listed_at, Stand}

-- where corner i of a way stands among the m corners of its ring: so many places on, or, for the lower side, back, where place m is place 0 again
abbrev pub way_place : Bool → ℕ → ℕ → ℕ → ℕ
way_place false m from i = from + i
way_place true m from i = cond (eqb (from - i) m) 0 (from - i)

-- each of its corners stands there
pub record Inside (lower : Bool) (m : ℕ) (a : Way) : Type 0 where
  pub below : (i : ℕ) → i < a.count → way_place lower m a.from i < m
  pub back : lower ≡ true → a.count ≤ suc a.from
  pub few : a.count ≤ suc m

-- i corners of the one way and j of the other were drawn, and some corner is left
pub record Stands (a b : Way) (i j : ℕ) : Type 0 where
  pub inside : i ≤ a.count
  pub inside2 : j ≤ b.count
  pub left : i + j < a.count + b.count

module _ (es ns fs ms : List ℤ) (lower : Bool) where
  -- the corners of a way over the first ring, and of one over the second
  abbrev pub first_way : Way → ℕ → Stream
  first_way a i = corner_at es ns fs ms lower (way_place lower (length es) a.from i)

  abbrev pub second_way : Way → ℕ → Stream
  second_way b j = corner_at es ns fs ms lower (length es + way_place lower (length fs) b.from j)

module _ (es ns fs ms : List ℤ) (lower : Bool) (a b : Way) where
  pub record Ways : Type 0 where
    pub corners : Corners es ns fs ms
    pub first : Inside lower (length es) a
    pub second : Inside lower (length fs) b
    pub east : East (first_way es ns fs ms lower a) a.count (second_way es ns fs ms lower b) b.count
    pub under : (s : Stream) → Upto (corner_at es ns fs ms lower) (count es fs) s
        → Under (Seen (first_way es ns fs ms lower a) a.count (second_way es ns fs ms lower b) b.count a.count b.count) s

  -- r says that the second way is the next
  pub record Second (i j : ℕ) (r : Bool) : Type 0 where
    pub yes : r ≡ true → (j < b.count) × (i < a.count → (second_way es ns fs ms lower b j).east ≤ℤ (first_way es ns fs ms lower a i).east)
    pub no : r ≡ false → (i < a.count) × (j < b.count → (first_way es ns fs ms lower a i).east ≤ℤ (second_way es ns fs ms lower b j).east)

  -- the corner at place k is drawn, which makes i' and j'
  pub record Drawn (i j k i' j' : ℕ) : Type 0 where
    pub draws : Draws (first_way es ns fs ms lower a) a.count (second_way es ns fs ms lower b) b.count i j (corner_at es ns fs ms lower k) i' j'
    pub below : k < count es fs
    pub one : i' + j' ≡ suc (i + j)

  -- i and j corners were drawn, and top corners are on the stack
  pub record Walking (w : List ℕ) (i j top : ℕ) : Type 0 where
    pub few : top ≤ i + j
    pub stand : Stand (count es fs) w top
    pub walk : Walk (first_way es ns fs ms lower a) a.count (second_way es ns fs ms lower b) b.count i j (listed_at es ns fs ms lower w) top

  -- the chain of all corners, r of them at the front of w
  pub record Chained (w : List ℕ) (r : ℕ) : Type 0 where
    pub chain : UpperChain (Upto (corner_at es ns fs ms lower) (count es fs)) (listed (listed_at es ns fs ms lower w) r)
    pub stand : Stand (count es fs) w r
    pub few : r ≤ a.count + b.count

-- the ways go over corners of the rings
pub way-corner : {es ns fs ms : List ℤ} {lower : Bool} {a b : Way} → Ways es ns fs ms lower a b → (s : Stream)
    → Seen (first_way es ns fs ms lower a) a.count (second_way es ns fs ms lower b) b.count a.count b.count s
    → Upto (corner_at es ns fs ms lower) (count es fs) s
way-corner {es} {lower} {a} o s (inl (i, l, e)) = (way_place lower (length es) a.from i, (let h = o.first.below i l in omega arith), e)
way-corner {es} {fs} {lower} {b} o s (inr (j, l, e)) =
    (length es + way_place lower (length fs) b.from j, (let h = o.second.below j l in omega arith), e)
