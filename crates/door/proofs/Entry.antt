-- The outcome of the door over two lists in each of the code's cases: its answer, and the content of both outputs afterwards.
-- Assumes nothing.
use Rattle.std.proofs.Common.{◌≡◌, ◌<◌, ◌≤◌, true, false, ◌||◌, ltb, List, length, ℤ, sym, refl, ◌∙◌, le-ltb, lt-ltb, eq-eqb, ne_eqb}
use Rattle.std.specs.Prelude.{ℕ, Option, Some, None, Result, Ok, Err}
use lib.Ieee.{Float}
use Rattle.rules.specs.Streams.{most}
use Rattle.rules.specs.Lists.{written}
use Rattle.rules.specs.Door.{Readings, taken, readings}
use Rattle.rules.specs.Entries.{door_done, door_of, door_answer, taken_east, taken_north, door_output_after}
use Rattle.samples.specs.Answers.{number_of}
use Rattle.samples.specs.declared.refusals.Reason.{Reason}
use Rattle.samples.specs.declared.refusals.Reason.TheVariants.{LengthsDiffer, TooMany, OutputShort}
use Rattle.door.specs.declared.DoorRefusal.{DoorRefusal}
use Rattle.door.specs.DoorAnswers.{refused_with, bad_with, bad_by, door_as, wholes}
use Rattle.door.proofs.Written.{length-wholes}

-- a refusal that names no place and hands back no float
abbrev pub plain : Reason → DoorRefusal
plain reason = record { refusal = record { reason = reason; place = 0 }; float = None }

module _ (es ns : List Float) (east north : List ℤ) where
  -- the promise: the answer, and the two outputs
  abbrev pub Outcome : Result ℕ DoorRefusal → List ℤ → List ℤ → Type 0
  Outcome r east' north' =
      (door_as r ≡ door_answer es ns east north)
      × ((east' ≡ door_output_after (taken_east (readings 0 es ns)) (door_answer es ns east north) east)
      × (north' ≡ door_output_after (taken_north (readings 0 es ns)) (door_answer es ns east north) north))

  unaltered : (r : DoorRefusal) → door_as (Err r) ≡ door_answer es ns east north → Outcome (Err r) east north
  unaltered r e = rw (← e) (refl, go r.float)
    where
      go : (o : Option Float) → let a = refused_with (number_of r.refusal.reason) r.refusal.place o in
          (east ≡ door_output_after (taken_east (readings 0 es ns)) a east) × (north ≡ door_output_after (taken_north (readings 0 es ns)) a north)
      go None = (refl, refl)
      go (Some x) = (refl, refl)

  pub lengths_differ : (length es ≡ length ns → ⊥) → Outcome (Err (plain LengthsDiffer)) east north
  unfolding door_answer
  lengths_differ h = unaltered (plain LengthsDiffer) (rw (ne_eqb (length es) (length ns) h))

  pub too_many : length es ≡ length ns → most < length es → Outcome (Err (plain TooMany)) east north
  unfolding door_answer
  too_many same h = unaltered (plain TooMany) (rw (eq-eqb (length es) (length ns) same, lt-ltb most (length es) h))

  module _ (same : length es ≡ length ns) (few : length es ≤ most) where
    by_readings : (r : Readings) → readings 0 es ns ≡ r → door_answer es ns east north ≡ door_of east north r
    unfolding door_answer
    by_readings r e = rw (eq-eqb (length es) (length ns) same, le-ltb most (length es) few, e)

    pub bad_reading : (r : DoorRefusal) → bad_by r ≡ readings 0 es ns → Outcome (Err r) east north
    bad_reading r e = unaltered r (sym (by_readings (bad_by r) (sym e) ∙ go r.float))
      where
        go : (o : Option Float) → door_of east north (bad_with (number_of r.refusal.reason) r.refusal.place o) ≡ refused_with (number_of r.refusal.reason) r.refusal.place o
        go None = refl
        go (Some x) = refl

    module _ (all : taken (wholes es) (wholes ns) ≡ readings 0 es ns) where
      pub short : (ltb (length east) (length es) || ltb (length north) (length es)) ≡ true → Outcome (Err (plain OutputShort)) east north
      short h = unaltered (plain OutputShort) (sym (by_readings (taken (wholes es) (wholes ns)) (sym all) ∙ rw (length-wholes es, h)))

      pub all_taken : (ltb (length east) (length es) || ltb (length north) (length es)) ≡ false →
          Outcome (Ok (length es)) (written (wholes es) east) (written (wholes ns) north)
      all_taken h = rw (done, ← all) (refl, (refl, refl))
        where
          done : door_answer es ns east north ≡ door_done (length es)
          done = by_readings (taken (wholes es) (wholes ns)) (sym all) ∙ rw (length-wholes es, h)
