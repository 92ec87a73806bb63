-- "Round. Given a list of sample numbers (repeats allowed) and a" .. The items of the list are of any type, with a position for each: sample numbers for
-- the entry, and for the lower chain the same with norths negated.
-- Assumes nothing.
use Rattle.std.specs.Prelude.{Bool, cond, ◌&&◌, ◌||◌, List, [], ◌∷◌, ◌++◌, ℕ, zero, suc, ◌+◌, ◌/◌, ℤ, ◌-ℤ◌, ◌*ℤ◌, length}
use Rattle.std.proofs.Math.Option.{Option, none, some}
use Rattle.std.specs.Int.Signed.{le_z, lt_z}
use Rattle.rules.specs.Lists.{best_from}
use Rattle.rules.specs.Streams.{Stream, eqZ}
use Rattle.rules.specs.Picker.{ranked}
use Rattle.rules.specs.Bridge.{Bridge, ends}

-- ---- slopes, "compared as fractions and never divided"

-- rise over run, the run above zero
pub record Slope : Type 0 where
  pub rise : ℤ
  pub run : ℤ

-- the slope of the way from p to q, which lies further east
abbrev pub slope : Stream → Stream → Slope
slope p q = record { rise = q.north -ℤ p.north; run = q.east -ℤ p.east }

-- the first is at most the second
unfoldable pub slope_le : Slope → Slope → Bool
slope_le j k = le_z (j.rise *ℤ k.run) (k.rise *ℤ j.run)

-- "north minus K times east", times K's run
unfoldable pub height : Slope → Stream → ℤ
height K s = K.run *ℤ s.north -ℤ K.rise *ℤ s.east

-- "the slope of rank ceil(q/2)" of q slopes
unfoldable pub middle_slope : Slope → List Slope → Slope
middle_slope k ks = ranked slope_le k ((length (k ∷ ks) + 1) / 2) (k ∷ ks)

-- ---- pairs

-- "pair places 0 and 1, 2 and 3, and so on; an odd last one is kept"
pub data Group (A : Type 0) : Type 0 where
  pair : A → A → Group A
  odd : A → Group A

unfoldable pub paired : {A : Type 0} → List A → List (Group A)
paired [] = []
paired (x ∷ []) = odd x ∷ []
paired (x ∷ y ∷ l) = pair x y ∷ paired l

-- what a round says: the bridge, or the list that it keeps
pub data Said (A : Type 0) : Type 0 where
  found : Bridge A → Said A
  kept : List A → Said A

-- where the tops lie, if they are no bridge: not sought, since no slope remains; all at most a; or all above a
pub data Tops : Type 0 where
  unsought : Tops
  west : Slope → Tops
  east : Slope → Tops

module _ {A : Type 0} (at : A → Stream) where
  -- the slope of a pair "ordered by east"; a pair of equal east has none
  abbrev pub slope_of : Group A → Option Slope
  slope_of (odd x) = none
  slope_of (pair x y) =
      cond (lt_z (at x).east (at y).east) (some (slope (at x) (at y)))
      (cond (lt_z (at y).east (at x).east) (some (slope (at y) (at x))) none)

  abbrev pub with_slope : Option Slope → List Slope → List Slope
  with_slope none ks = ks
  with_slope (some k) ks = k ∷ ks

  -- the slopes of the q other pairs
  unfoldable pub slopes : List (Group A) → List Slope
  slopes [] = []
  slopes (g ∷ gs) = with_slope (slope_of g) (slopes gs)

  -- "a pair of equal east keeps the one of greater north, or the earlier in the list if norths are equal"
  abbrev pub higher : A → A → A
  higher x y = cond (lt_z (at x).north (at y).north) y x

  -- the right one of two, and the left
  abbrev pub right_of : A → A → A
  right_of x y = cond (lt_z (at x).east (at y).east) y x

  abbrev pub left_of : A → A → A
  left_of x y = cond (lt_z (at x).east (at y).east) x y

  -- what a pair x, y of slope k keeps: "if the greatest east is at most a, pairs of slope K or more keep only the right sample. If the least is above
  -- a, pairs of slope K or less keep only the left. Other pairs keep both."
  abbrev pub keeps_of : Tops → Option Slope → A → A → List A
  keeps_of t none x y = higher x y ∷ []
  keeps_of unsought (some k) x y = x ∷ y ∷ []
  keeps_of (west K) (some k) x y = cond (slope_le K k) (right_of x y ∷ []) (x ∷ y ∷ [])
  keeps_of (east K) (some k) x y = cond (slope_le k K) (left_of x y ∷ []) (x ∷ y ∷ [])

  abbrev pub keeps : Tops → Group A → List A
  keeps t (odd x) = x ∷ []
  keeps t (pair x y) = keeps_of t (slope_of (pair x y)) x y

  -- "kept numbers are written in list order"
  unfoldable pub keep : Tops → List (Group A) → List A
  keep t [] = []
  keep t (g ∷ gs) = keeps t g ++ keep t gs

  -- ---- the tops: "those with greatest north minus K times east; of these the least and the greatest east .. (earliest in the list at that position)"

  unfoldable pub left_top : Slope → A → A → Bool
  left_top K x y =
      lt_z (height K (at y)) (height K (at x))
      || eqZ (height K (at x)) (height K (at y)) && lt_z (at x).east (at y).east

  unfoldable pub right_top : Slope → A → A → Bool
  right_top K x y =
      lt_z (height K (at y)) (height K (at x))
      || eqZ (height K (at x)) (height K (at y)) && lt_z (at y).east (at x).east

  -- ---- the round

  -- with the tops i, furthest west, and j, furthest east: "if least is at most a and greatest above a, these two are the bridge"
  abbrev pub decided : ℤ → Slope → A → A → List (Group A) → Said A
  decided a K i j gs =
      cond (le_z (at i).east a && lt_z a (at j).east) (found (ends i j))
      (kept (keep (cond (le_z (at j).east a) (west K) (east K)) gs))

  -- a round at a with K
  unfoldable pub round_with : ℤ → Slope → A → List A → Said A
  round_with a K x l = decided a K (best_from (left_top K) x l) (best_from (right_top K) x l) (paired (x ∷ l))

  -- "if q is 0, stop here"
  abbrev pub round_by : ℤ → List Slope → A → List A → Said A
  round_by a [] x l = kept (keep unsought (paired (x ∷ l)))
  round_by a (k ∷ ks) x l = round_with a (middle_slope k ks) x l

  -- "if the list has two samples, answer them as the bridge, left first"
  unfoldable pub round : ℤ → List A → Said A
  round a [] = kept []
  round a (x ∷ []) = kept (x ∷ [])
  round a (x ∷ y ∷ []) = found (ends (left_of x y) (right_of x y))
  round a (x ∷ y ∷ z ∷ l) = round_by a (slopes (paired (x ∷ y ∷ z ∷ l))) x (y ∷ z ∷ l)

  -- "rounds start from the whole list in its order", at most n of them, until a bridge is answered
  unfoldable pub rounds : ℕ → ℤ → Said A → Option (Bridge A)
  rounds zero a (found b) = some b
  rounds zero a (kept l) = none
  rounds (suc n) a (found b) = some b
  rounds (suc n) a (kept l) = rounds n a (round a l)
