-- No two outcomes satisfy a promise of the door's: two outcomes of which the contract holds, for the same arguments, are one. An outcome is the result
-- and, of the door over two lists, the content of both outputs afterwards.
-- Assumes nothing.
use Rattle.std.proofs.Common.{◌≡◌, cond, eqb, sym, ap, ap₂, refl, ◌∙◌}
use Rattle.std.specs.Prelude.{ℕ, Float, Option, Some, None, Result, Ok, Err}
use Rattle.samples.specs.Answers.{number_of, answer_of, answer_of_injective}
use Rattle.samples.specs.declared.refusals.Refusal.{Refusal}
use Rattle.rules.specs.Refusals.{Answer, refused, done}
use mathlib.Mathlib.Logic.Function.Defs.{LeftInverse-Injective}
use contract.Lifetimes.{Lfts}
use denote.Triple.Clauses.{AtExit}
use borrow.Fn.Kinds.{Dens, ended_of}
use Rattle.rules.specs.Door.{PartIs, whole, no, no_float}
use Rattle.rules.specs.Entries.{DoorAnswer, door_done, door_refused, door_refused_float}
use Rattle.door.specs.declared.PartAnswer.{PartAnswer}
use Rattle.door.specs.declared.PartAnswer.TheVariants.{Whole, NotANumber, TooLarge, Fraction}
use Rattle.door.specs.declared.DoorRefusal.{DoorRefusal}
use Rattle.door.specs.DoorAnswers.{part_as, refused_with, door_as}
use Rattle.door.proofs.part.Kinds as part-kinds
use Rattle.door.proofs.part.Reads as part-reads
use Rattle.door.proofs.take_readings.Kinds as take-kinds
use Rattle.door.proofs.take_readings.Reads as take-reads

-- ---- an answer can be read back from what it says in the rules' words

-- 13 and 14 are told apart by their number
part_from : PartIs → PartAnswer
part_from (whole z) = Whole z
part_from (no number) = NotANumber
part_from (no_float number x) = cond (eqb number 13) (TooLarge x) (Fraction x)

part-back : (p : PartAnswer) → part_from (part_as p) ≡ p
unfolding part_from
part-back (Whole z) = refl
part-back NotANumber = refl
part-back (TooLarge x) = refl
part-back (Fraction x) = refl

-- an answer over two lists is read back in two parts: without the float, and the float
without_float : DoorAnswer → Answer ℕ
without_float (door_done count) = done count
without_float (door_refused number place) = refused number place
without_float (door_refused_float number place x) = refused number place

float_of : DoorAnswer → Option Float
float_of (door_done count) = None
float_of (door_refused number place) = None
float_of (door_refused_float number place x) = Some x

plain : Result ℕ DoorRefusal → Result ℕ Refusal
plain (Ok count) = Ok count
plain (Err r) = Err r.refusal

float : Result ℕ DoorRefusal → Option Float
float (Ok count) = None
float (Err r) = r.float

both : Result ℕ Refusal → Option Float → Result ℕ DoorRefusal
both (Ok count) x = Ok count
both (Err r) x = Err (record { refusal = r; float = x })

both_back : (r : Result ℕ DoorRefusal) → both (plain r) (float r) ≡ r
unfolding plain float both
both_back (Ok count) = refl
both_back (Err r) = refl

plain_is : (r : Result ℕ DoorRefusal) → without_float (door_as r) ≡ answer_of (plain r)
unfolding plain without_float
plain_is (Ok count) = refl
plain_is (Err r) = go r.float
  where
    go : (o : Option Float) → without_float (refused_with (number_of r.refusal.reason) r.refusal.place o) ≡ refused (number_of r.refusal.reason) r.refusal.place
    go None = refl
    go (Some x) = refl

float_is : (r : Result ℕ DoorRefusal) → float_of (door_as r) ≡ float r
unfolding float float_of
float_is (Ok count) = refl
float_is (Err r) = go r.float
  where
    go : (o : Option Float) → float_of (refused_with (number_of r.refusal.reason) r.refusal.place o) ≡ o
    go None = refl
    go (Some x) = refl

door_injective : (r r' : Result ℕ DoorRefusal) → door_as r ≡ door_as r' → r ≡ r'
door_injective r r' e =
    let p : plain r ≡ plain r' = answer_of_injective (plain r) (plain r') (sym (plain_is r) ∙ ap without_float e ∙ plain_is r') in
    let f : float r ≡ float r' = sym (float_is r) ∙ ap float_of e ∙ float_is r' in
    sym (both_back r) ∙ ap₂ both p f ∙ both_back r'

-- ---- the promises

pub part-one : (κs : Lfts 0) (a : Dens κs part-kinds.ps) (r r' : PartAnswer) (s s' : AtExit (ended_of 0 part-kinds.ps part-kinds.r) κs) →
    part-reads.Post κs a r s → part-reads.Post κs a r' s' → r ≡ r'
part-one κs a r r' s s' p q = LeftInverse-Injective part_from part_as part-back r r' (p ∙ sym q)

pub take-readings-one :
    (κs : Lfts 4) (a : Dens κs take-kinds.ps) (r r' : Result ℕ DoorRefusal) (s s' : AtExit (ended_of 4 take-kinds.ps take-kinds.r) κs) →
    take-reads.Post κs a r s → take-reads.Post κs a r' s' →
    (r ≡ r') × (s.1.1.0.now ≡ s'.1.1.0.now) × (s.1.1.1.0.now ≡ s'.1.1.1.0.now)
take-readings-one κs a r r' s s' p q =
    (door_injective r r' (p.0 ∙ sym q.0), p.1.0 ∙ sym q.1.0, p.1.1 ∙ sym q.1.1)
