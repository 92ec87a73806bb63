-- What comes of an entry that writes a ring, in the rules' words: its answer, and the content of everything lent.
-- Assumes nothing.
use Rattle.std.specs.Prelude.{◌≡◌, refl, Bool, false, cond, ◌||◌, List, [], ◌∷◌, ℕ, ℤ, ltb, eqb, length, Result}
use Rattle.std.proofs.Common.{sym, ap, ◌∙◌}
use Rattle.std.proofs.Math.Path.{subst⁻¹}
use Rattle.rules.specs.Lists.{zeros}
use Rattle.rules.specs.Streams.{Stream}
use Rattle.rules.specs.Refusals.{Answer, refused, unless, output_after, scratch_after}
use Rattle.rules.specs.Entries.{ring_short, easts, norths, counted}
use Rattle.samples.specs.Answers.{answer_of}
use Rattle.samples.specs.InOrder.{scratch_by_length}
use Rattle.samples.specs.declared.refusals.Refusal.{Refusal}

-- the last test: the ring, unless an output is too short for it
abbrev pub unless_short : List ℤ → List ℤ → List Stream → Answer (List Stream)
unless_short east north r = unless (ring_short east north r ∷ []) r

-- the answer, and each lent list before and after
pub record Outcome (answer : Answer (List Stream)) (r : Result ℕ Refusal) (east east' north north' : List ℤ) (scratch scratch' : List ℕ) : Type 0 where
  pub says : answer_of r ≡ counted answer
  pub east_after : east' ≡ output_after easts answer east
  pub north_after : north' ≡ output_after norths answer north
  pub scratch-is : scratch' ≡ scratch_after answer scratch

-- ---- outcomes of one answer

module _ {r : Result ℕ Refusal} {east east' north north' : List ℤ} {scratch scratch' : List ℕ} where
  -- an answer that is this one has this one's outcome
  pub outcome_as : {a b : Answer (List Stream)} → a ≡ b → Outcome b r east east' north north' scratch scratch' → Outcome a r east east' north north' scratch scratch'
  outcome_as e o = subst⁻¹ (λ (c : Answer (List Stream)). Outcome c r east east' north north' scratch scratch') e o

  -- a ring that is this one, from scratch in which both chains were made: what was made of it is no matter, but its length
  pub outcome_from : {R R' : List Stream} {w : List ℕ} → R' ≡ R → length w ≡ length scratch → Outcome (unless_short east north R) r east east' north north' w scratch'
      → Outcome (unless_short east north R') r east east' north north' scratch scratch'
  outcome_from {R} {R'} {w} q e o =
      outcome_as (ap (unless_short east north) q)
      (record {
        says = o.says;
        east_after = o.east_after;
        north_after = o.north_after;
        scratch-is = o.scratch-is ∙ scratch_by_length (ltb (length east) (length R) || ltb (length north) (length R)) R w scratch e;
      })

-- a refusal before the last test leaves what is lent as it was, unless its number is 5 or 18
pub outcome_refused : {answer : Answer (List Stream)} {r : Result ℕ Refusal} {number place : ℕ} {east north : List ℤ} {scratch : List ℕ}
    → answer ≡ refused number place → answer_of r ≡ refused number place → (eqb number 5 || eqb number 18) ≡ false
    → Outcome answer r east east north north scratch scratch
outcome_refused {scratch} e s h =
    outcome_as e (record { says = s; east_after = refl; north_after = refl; scratch-is = sym (ap (λ (b : Bool). cond b (zeros scratch) scratch) h) })
