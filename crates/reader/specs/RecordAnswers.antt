-- What the record reader's parts ask of the bytes that have the corners, and what they answer.
-- Assumes nothing.
use Rattle.std.specs.Prelude.{◌≡◌, List, ℕ, ◌≤◌, ℤ, length, Result}
use Rattle.std.proofs.Common.{sym, ap, ◌∙◌}
use Rattle.rules.specs.Lists.{written}
use Rattle.rules.specs.Streams.{Stream}
use Rattle.rules.specs.Record.{in_sense, corners_in, corners_part, sense}
use Rattle.rules.specs.Refusals.{Answer, refused, done, unless, output_after}
use Rattle.rules.specs.Entries.{corner_tests, easts, norths, counted}
use Rattle.samples.specs.Answers.{answer_of}
use Rattle.samples.specs.Forms.{sense_byte}
use Rattle.samples.specs.declared.refusals.Refusal.{Refusal}
use Rattle.reader.specs.declared.Framed.{Framed}

-- what comes of the corners, after the tests around them
abbrev pub corners_answer : ℕ → List ℕ → List ℤ → List ℤ → Answer (List Stream)
corners_answer s cs es ns = unless (corner_tests s (corners_in cs) es ns) (in_sense s (corners_in cs))

-- what stands in a record whose frame is right: what it says of its sense, and the bytes of the corners
abbrev pub found : List ℕ → ℕ × List ℕ
found bs = (sense bs, corners_part bs)

abbrev pub framed_as : Framed → ℕ × List ℕ
framed_as f = (sense_byte f.sense, f.corners.now)

-- both outputs have room for n items
pub record Room (n : ℕ) (es ns : List ℤ) : Type 0 where
  pub east_room : n ≤ length es
  pub north_room : n ≤ length ns

-- a ring was read, or refused: what is answered, and both outputs, before and after
pub record CornersRead (a : Answer (List Stream)) (es ns : List ℤ) (r : Result ℕ Refusal) (es' ns' : List ℤ) : Type 0 where
  pub answer : answer_of r ≡ counted a
  pub east_after : es' ≡ output_after easts a es
  pub north_after : ns' ≡ output_after norths a ns

module _ {a : Answer (List Stream)} {es ns : List ℤ} {r : Result ℕ Refusal} where
  -- a refusal alters neither output
  pub corners_refused : {k p : ℕ} → answer_of r ≡ refused k p → a ≡ refused k p → CornersRead a es ns r es ns
  corners_refused h e =
      record {
        answer = h ∙ ap counted (sym e);
        east_after = ap (λ (a : Answer (List Stream)). output_after easts a es) (sym e);
        north_after = ap (λ (a : Answer (List Stream)). output_after norths a ns) (sym e);
      }

  pub corners_done : {xs : List Stream} {es' ns' : List ℤ} → answer_of r ≡ done (length xs) → a ≡ done xs →
      es' ≡ written (easts xs) es → ns' ≡ written (norths xs) ns → CornersRead a es ns r es' ns'
  corners_done h e east north =
      record {
        answer = h ∙ ap counted (sym e);
        east_after = east ∙ ap (λ (a : Answer (List Stream)). output_after easts a es) (sym e);
        north_after = north ∙ ap (λ (a : Answer (List Stream)). output_after norths a ns) (sym e);
      }
