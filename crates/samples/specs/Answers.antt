-- What an entry answers, in the rules' words, and that the answer can be read back from it.
-- Assumes nothing.
use Rattle.std.specs.Prelude.{◌≡◌, refl, cond, ℕ, eqb, Result, Ok, Err}
use Rattle.std.proofs.Common.{ap}
use mathlib.Mathlib.Logic.Function.Defs.{LeftInverse-Injective}
use Rattle.rules.specs.Refusals.{Answer, refused, done}
use Rattle.samples.specs.declared.refusals.Reason.{Reason}
use Rattle.samples.specs.declared.refusals.Reason.TheVariants.{LengthsDiffer, TooMany, PartBeyond, ScratchShort, OutputShort, NotSpanned, Unlisted, NoSuchRank, NotEnvelope, NoCorner, NoCourse, NotANumber, TooLarge, Fraction, BadText, OtherVersion, EndsEarly, StepWithoutBridge, SumBeyond, BytesFollow, OddLength, OtherSense}
use Rattle.samples.specs.declared.refusals.Refusal.{Refusal}

-- the number that the rules give a reason
abbrev pub number_of : Reason → ℕ
number_of LengthsDiffer = 1
number_of TooMany = 2
number_of PartBeyond = 3
number_of ScratchShort = 4
number_of OutputShort = 5
number_of NotSpanned = 6
number_of Unlisted = 7
number_of NoSuchRank = 8
number_of NotEnvelope = 9
number_of NoCorner = 10
number_of NoCourse = 11
number_of NotANumber = 12
number_of TooLarge = 13
number_of Fraction = 14
number_of BadText = 15
number_of OtherVersion = 16
number_of EndsEarly = 17
number_of StepWithoutBridge = 18
number_of SumBeyond = 19
number_of BytesFollow = 20
number_of OddLength = 21
number_of OtherSense = 22

-- an answer, as f reads what is done
abbrev pub answer_as : {A B : Type 0} → (A → B) → Result A Refusal → Answer B
answer_as f (Ok x) = done (f x)
answer_as f (Err r) = refused (number_of r.reason) r.place

abbrev pub answer_of : {A : Type 0} → Result A Refusal → Answer A
answer_of r = answer_as (λ x. x) r

-- ---- read back

abbrev reason_from : ℕ → Reason
reason_from n =
    cond (eqb n 1) LengthsDiffer (
    cond (eqb n 2) TooMany (
    cond (eqb n 3) PartBeyond (
    cond (eqb n 4) ScratchShort (
    cond (eqb n 5) OutputShort (
    cond (eqb n 6) NotSpanned (
    cond (eqb n 7) Unlisted (
    cond (eqb n 8) NoSuchRank (
    cond (eqb n 9) NotEnvelope (
    cond (eqb n 10) NoCorner (
    cond (eqb n 11) NoCourse (
    cond (eqb n 12) NotANumber (
    cond (eqb n 13) TooLarge (
    cond (eqb n 14) Fraction (
    cond (eqb n 15) BadText (
    cond (eqb n 16) OtherVersion (
    cond (eqb n 17) EndsEarly (
    cond (eqb n 18) StepWithoutBridge (
    cond (eqb n 19) SumBeyond (
    cond (eqb n 20) BytesFollow (
    cond (eqb n 21) OddLength (
    OtherSense
    )))))))))))))))))))))

reason_back : (r : Reason) → reason_from (number_of r) ≡ r
reason_back LengthsDiffer = refl
reason_back TooMany = refl
reason_back PartBeyond = refl
reason_back ScratchShort = refl
reason_back OutputShort = refl
reason_back NotSpanned = refl
reason_back Unlisted = refl
reason_back NoSuchRank = refl
reason_back NotEnvelope = refl
reason_back NoCorner = refl
reason_back NoCourse = refl
reason_back NotANumber = refl
reason_back TooLarge = refl
reason_back Fraction = refl
reason_back BadText = refl
reason_back OtherVersion = refl
reason_back EndsEarly = refl
reason_back StepWithoutBridge = refl
reason_back SumBeyond = refl
reason_back BytesFollow = refl
reason_back OddLength = refl
reason_back OtherSense = refl

-- no two reasons have one number
pub number_injective : (r s : Reason) → number_of r ≡ number_of s → r ≡ s
number_injective r s e = LeftInverse-Injective reason_from number_of reason_back r s e

-- what can be read back from f can be read back from the answer
module _ {A B : Type 0} (f : A → B) (g : B → A) (back : (x : A) → g (f x) ≡ x) where
  abbrev answer_from : Answer B → Result A Refusal
  answer_from (done y) = Ok (g y)
  answer_from (refused number place) = Err (record { reason = reason_from number; place = place })

  answer_back : (r : Result A Refusal) → answer_from (answer_as f r) ≡ r
  answer_back (Ok x) = ap Ok (back x)
  answer_back (Err r) = ap (λ (k : Reason). Err (record { reason = k; place = r.place })) (reason_back r.reason)

  pub answer_injective : (r s : Result A Refusal) → answer_as f r ≡ answer_as f s → r ≡ s
  answer_injective r s e = LeftInverse-Injective answer_from (answer_as f) answer_back r s e

pub answer_of_injective : {A : Type 0} (r s : Result A Refusal) → answer_of r ≡ answer_of s → r ≡ s
answer_of_injective r s e = answer_injective (λ x. x) (λ x. x) (λ x. refl) r s e
