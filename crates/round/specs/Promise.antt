-- The promise of the round: its answer, and what it leaves of all that is lent, as the rules have them.
-- Assumes nothing.
use Rattle.std.specs.Prelude.{◌≡◌, ℕ, ◌+◌, ◌*◌, not, ◌||◌, List, [], ◌∷◌, map, length, ℤ, nat_le, nat_lt, Result}
use Rattle.rules.specs.Lists.{some_of, first_place}
use Rattle.rules.specs.Streams.{streams, sample, most}
use Rattle.rules.specs.Bridge.{Bridge, ends, spans}
use Rattle.rules.specs.Round as rules
use Rattle.rules.specs.Refusals.{Answer, refused, done, Test, test, unless, lengths_differ, part_beyond, output_short, output_after, scratch_after}
use Rattle.rules.specs.Entries.{kept_list, round_answer}
use Rattle.samples.specs.Answers.{answer_as}
use Rattle.samples.specs.declared.refusals.Refusal.{Refusal}
use Rattle.round.specs.declared.turn.Said.{Said}
use Rattle.round.specs.declared.turn.Said.TheVariants.{Found, Kept}
use Rattle.round.specs.Saying.{said_as}

-- what an answer tells: the bridge, or how many numbers are kept, which lie in the output
pub data Told : Type 0 where
  bridge_of : Bridge ℕ → Told
  count_of : ℕ → Told

-- what is told by each case of the enum
abbrev pub told_by : Said → Told
told_by (Found i j) = bridge_of (ends i j)
told_by (Kept m) = count_of m

abbrev pub told : rules.Said ℕ → Told
told (rules.found b) = bridge_of b
told (rules.kept l) = count_of (length l)

abbrev pub telling : Answer (rules.Said ℕ) → Answer Told
telling (refused number place) = refused number place
telling (done said) = done (told said)

-- for the samples, the list, a, the output and the scratch that are given: what is answered, and the output and the scratch that are left
pub record RoundPromise
    (es ns : List ℤ)
    (list : List ℕ)
    (a : ℤ)
    (output scratch : List ℕ)
    (r : Result Said Refusal)
    (output_left scratch_left : List ℕ)
    : Type 0 where
  pub answer : answer_as told_by r ≡ telling (round_answer es ns list a output scratch)
  pub output_is : output_left ≡ output_after kept_list (round_answer es ns list a output scratch) output
  pub scratch-is : scratch_left ≡ scratch_after (round_answer es ns list a output scratch) scratch

-- ---- the parts of the entry

-- the tests before 5, with so many words of scratch
abbrev pub round_tests : List ℤ → List ℤ → List ℕ → ℤ → ℕ → List Test
round_tests es ns list a room =
    lengths_differ es ns
    ∷ test 2 0 (nat_lt most (length es) || nat_lt most (length list))
    ∷ part_beyond (streams es ns)
    ∷ test 7 (first_place (λ i. nat_le (length es) i) list) (some_of (λ i. nat_le (length es) i) list)
    ∷ test 4 0 (nat_lt room (16 * length list + 64))
    ∷ test 6 0 (not (spans a (map (sample (streams es ns)) list)))
    ∷ []

-- the test for 5 of what is said
abbrev pub output_answer : rules.Said ℕ → List ℕ → Answer (rules.Said ℕ)
output_answer said output = unless (output_short (nat_lt (length output) (length (kept_list said))) ∷ []) said

-- of what a round has said, with the kept list at the front of scratch: the answer, the output and the scratch
pub record Answered (said : Said) (output scratch : List ℕ) (r : Result Said Refusal) (output_left scratch_left : List ℕ) : Type 0 where
  pub answer : answer_as told_by r ≡ telling (output_answer (said_as said scratch) output)
  pub output_is : output_left ≡ output_after kept_list (output_answer (said_as said scratch) output) output
  pub scratch-is : scratch_left ≡ scratch_after (output_answer (said_as said scratch) output) scratch
