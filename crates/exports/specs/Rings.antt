-- What the C face of the uses of a ring gives for each answer of the rules: number 0 and the values, or the refusal's number and place.
-- Assumes nothing.
use Rattle.std.specs.Prelude.{◌≡◌, refl, Bool, true, false, List, ℕ, ℤ, pos, length, Result}
use Rattle.std.proofs.Common.{sym, ap, ◌∙◌}
use Rattle.rules.specs.Streams.{Stream}
use Rattle.rules.specs.Refusals.{Answer, refused, done, output_after, scratch_after}
use Rattle.rules.specs.Entries.{Strongest, easts, norths, counted}
use Rattle.samples.specs.Answers.{answer_of}
use Rattle.samples.specs.declared.refusals.Refusal.{Refusal}
use Rattle.closing.specs.RingPromise.{Outcome}
use Rattle.exports.specs.declared.uses.StrongestC.{StrongestC}
use Rattle.exports.specs.declared.uses.CoverTold.{CoverTold}
use Rattle.exports.specs.declared.counts.CountedC.{CountedC}

abbrev pub strongest_face : Answer Strongest → StrongestC
strongest_face (done s) = record { number = 0; place = 0; set = s.set; at = s.place }
strongest_face (refused number place) = record { number = number; place = place; set = pos 0; at = 0 }

abbrev pub cover_face : Answer Bool → CoverTold
cover_face (done true) = record { number = 0; place = 0; covered = 1 }
cover_face (done false) = record { number = 0; place = 0; covered = 0 }
cover_face (refused number place) = record { number = number; place = place; covered = 0 }

-- the count of the corners, or bytes, written
abbrev pub counted_face : {A : Type 0} → Answer (List A) → CountedC
counted_face (done r) = record { number = 0; place = 0; count = length r }
counted_face (refused number place) = record { number = number; place = place; count = 0 }

-- the same, from the count that an entry answers
abbrev pub count_face : Answer ℕ → CountedC
count_face (done n) = record { number = 0; place = 0; count = n }
count_face (refused number place) = record { number = number; place = place; count = 0 }

pub counted_is : {A : Type 0} (a : Answer (List A)) → count_face (counted a) ≡ counted_face a
counted_is (done r) = refl
counted_is (refused number place) = refl

-- and from what an entry that writes a list promises of its count
pub told_face : {A : Type 0} (r : Result ℕ Refusal) (a : Answer (List A)) → answer_of r ≡ counted a → count_face (answer_of r) ≡ counted_face a
told_face r a e = ap count_face e ∙ counted_is a

-- the parts of a ring's corners, as they are written to the two output lists
abbrev pub parts_east : List Stream → List ℤ
parts_east r = easts r

abbrev pub parts_north : List Stream → List ℤ
parts_north r = norths r

-- what comes of a function that writes a ring and has scratch: its result, and each lent list before and after
pub record RingFace (answer : Answer (List Stream)) (r : CountedC) (east east' north north' : List ℤ) (scratch scratch' : List ℕ) : Type 0 where
  pub says : r ≡ counted_face answer
  pub east_after : east' ≡ output_after parts_east answer east
  pub north_after : north' ≡ output_after parts_north answer north
  pub scratch-is : scratch' ≡ scratch_after answer scratch

module _ {answer : Answer (List Stream)} {east east' north north' : List ℤ} {scratch scratch' : List ℕ} where
  -- the face of an entry's count, with the lists as the entry leaves them
  pub outcome_face : {r : Result ℕ Refusal} {c : CountedC} → c ≡ count_face (answer_of r) → Outcome answer r east east' north north' scratch scratch'
      → RingFace answer c east east' north north' scratch scratch'
  outcome_face {r} e o = record { says = e ∙ told_face r answer o.says; east_after = o.east_after; north_after = o.north_after; scratch-is = o.scratch-is }

  -- no two outcomes
  pub ring-face-one : {r t : CountedC} {east'' north'' : List ℤ} {scratch'' : List ℕ}
      → RingFace answer r east east' north north' scratch scratch' → RingFace answer t east east'' north north'' scratch scratch''
      → (r ≡ t) × (east' ≡ east'') × (north' ≡ north'') × (scratch' ≡ scratch'')
  ring-face-one p q = (
    p.says ∙ sym q.says,
    p.east_after ∙ sym q.east_after,
    p.north_after ∙ sym q.north_after,
    p.scratch-is ∙ sym q.scratch-is,
  )
