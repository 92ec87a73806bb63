-- What the door's values say in the rules' words: a part's answer, and what two lists of readings give.
-- Assumes nothing.
use Rattle.std.specs.Prelude.{◌⊎◌, ℕ, List, map, ℤ, pos, Float, Option, Some, None, Result, Ok, Err}
use Rattle.std.proofs.Common.{inl, inr}
use Rattle.rules.specs.Streams.{Stream, stream}
use Rattle.rules.specs.Door.{PartIs, whole, no, no_float, part, Readings, taken, bad, bad_float}
use Rattle.rules.specs.Entries.{DoorAnswer, door_done, door_refused, door_refused_float}
use Rattle.samples.specs.Answers.{number_of}
use Rattle.samples.specs.HeldStream.{stream_of}
use Rattle.samples.specs.declared.streams.Stream as held
use Rattle.door.specs.declared.DoorRefusal.{DoorRefusal}
use Rattle.door.specs.declared.PartAnswer.{PartAnswer}
use Rattle.door.specs.declared.PartAnswer.TheVariants.{Whole, NotANumber, TooLarge, Fraction}

-- a part's answer, with the rules' number for each that is not taken
abbrev pub part_as : PartAnswer → PartIs
part_as (Whole z) = whole z
part_as NotANumber = no 12
part_as (TooLarge x) = no_float 13 x
part_as (Fraction x) = no_float 14 x

-- a refusal's number and place, with the float itself where it is handed back
abbrev pub refused_with : ℕ → ℕ → Option Float → DoorAnswer
refused_with number place None = door_refused number place
refused_with number place (Some x) = door_refused_float number place x

-- what the door answers over two lists
abbrev pub door_as : Result ℕ DoorRefusal → DoorAnswer
door_as (Ok count) = door_done count
door_as (Err r) = refused_with (number_of r.refusal.reason) r.refusal.place r.float

-- ---- what the private functions say to each other

-- the same refusal, of readings
abbrev pub bad_with : ℕ → ℕ → Option Float → Readings
bad_with number place None = bad number place
bad_with number place (Some x) = bad_float number place x

abbrev pub bad_by : DoorRefusal → Readings
bad_by r = bad_with (number_of r.refusal.reason) r.refusal.place r.float

-- a part of the reading at a place: the whole number that it is taken as, or what the readings give by it
abbrev pub part_at : PartIs → ℕ → ℤ ⊎ Readings
part_at (whole z) i = inl z
part_at (no number) i = inr (bad number i)
part_at (no_float number x) i = inr (bad_float number i x)

abbrev pub part_taken : Result ℤ DoorRefusal → ℤ ⊎ Readings
part_taken (Ok z) = inl z
part_taken (Err r) = inr (bad_by r)

-- the reading at a place: the stream that it is taken as, or what the readings give by it, east before north
abbrev pub reading_at : PartIs → PartIs → ℕ → Stream ⊎ Readings
reading_at (whole x) (whole y) i = inl (stream x y)
reading_at (whole x) (no number) i = inr (bad number i)
reading_at (whole x) (no_float number y) i = inr (bad_float number i y)
reading_at (no number) q i = inr (bad number i)
reading_at (no_float number x) q i = inr (bad_float number i x)

abbrev pub reading_taken : Result held.Stream DoorRefusal → Stream ⊎ Readings
reading_taken (Ok s) = inl (stream_of s)
reading_taken (Err r) = inr (bad_by r)

-- the whole number that a part is taken as; no entry reads it of a part that is not taken
abbrev pub whole_of : PartIs → ℤ
whole_of (whole z) = z
whole_of (no number) = pos 0
whole_of (no_float number x) = pos 0

unfoldable pub wholes : List Float → List ℤ
wholes xs = map (λ x. whole_of (part x)) xs

-- what an answer says of the readings: these wholes are taken where it is done
abbrev pub readings_as : {A : Type 0} → List ℤ → List ℤ → Result A DoorRefusal → Readings
readings_as xs ys (Ok x) = taken xs ys
readings_as xs ys (Err r) = bad_by r
