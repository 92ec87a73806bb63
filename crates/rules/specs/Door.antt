-- Float door. "A part is taken exactly if its value is a whole number within the limit; minus zero is taken as 0. Tests in order: not a number (12),
-- beyond the limit, infinities included (13), fraction (14). Refusals 13 and 14 hand back the offending float itself. Over two lists, the first bad
-- reading decides, east before north."
-- A finite float is its sign, a whole number m and a power e of two: m * 2 ^ e is the fraction m * up e / down e.
-- Assumes nothing.
use Rattle.std.specs.Prelude.{Bool, true, false, cond, List, [], ◌∷◌, ℕ, zero, suc, ◌*◌, ◌/◌, ◌%◌, ℤ, pos, neg_ℤ, ltb, eqb, Float}
use Rattle.std.specs.Float.{nan, inf, fin}
use Rattle.std.specs.Float.Ieee.{up, down}
use Rattle.rules.specs.Streams.{limit}

-- what the door makes of one float: the whole number that it is taken as; or the refusal's number; or this with the float itself
pub data PartIs : Type 0 where
  whole : ℤ → PartIs
  no : (number : ℕ) → PartIs
  no_float : (number : ℕ) → Float → PartIs

abbrev pub signed : Bool → ℕ → ℤ
signed true n = neg_ℤ (pos n)
signed false n = pos n

unfoldable pub part : Float → PartIs
part nan = no 12
part (inf s) = no_float 13 (inf s)
part (fin s m e) =
    cond (ltb (limit * down e) (m * up e)) (no_float 13 (fin s m e))
    (cond (eqb (m * up e % down e) zero) (whole (signed s (m * up e / down e))) (no_float 14 (fin s m e)))

-- what two lists give: the parts that were taken, east and north; or the first bad reading, its number and place; or these with the float itself
pub data Readings : Type 0 where
  taken : List ℤ → List ℤ → Readings
  bad : (number place : ℕ) → Readings
  bad_float : (number place : ℕ) → Float → Readings

-- one reading before the others, of which the place counts from the one before
abbrev pub and_then : ℕ → PartIs → PartIs → Readings → Readings
and_then i (no k) n r = bad k i
and_then i (no_float k f) n r = bad_float k i f
and_then i (whole x) (no k) r = bad k i
and_then i (whole x) (no_float k f) r = bad_float k i f
and_then i (whole x) (whole y) (taken es ns) = taken (x ∷ es) (y ∷ ns)
and_then i (whole x) (whole y) (bad k p) = bad k p
and_then i (whole x) (whole y) (bad_float k p f) = bad_float k p f

-- the readings from place i on
unfoldable pub readings : ℕ → List Float → List Float → Readings
readings i [] ns = taken [] []
readings i (e ∷ es) [] = taken [] []
readings i (e ∷ es) (n ∷ ns) = and_then i (part e) (part n) (readings (suc i) es ns)
