-- Numbers for no. "Each refusal returns its number and a place (0 if none named; each ring's places count from 0). Nothing lent is altered, with one
-- exception: refusals 5 and 18 of an entry with scratch leave all the scratch zero. .. Where several hold, the first in this order is given."
-- An entry's outcome is its tests in their order, then what it answers when none holds; the content of what was lent follows from the answer.
-- The tests for 1, 2, 3, 4, 5 and 9 stand here; those for 6, 7, 8, 10, 11 and 16 to 22, and the order of each entry, in Entries; 12 to 14 in Door; 15 and
-- the 513th line in Program.
-- Assumes nothing.
use Rattle.std.specs.Prelude.{Bool, cond, not, ◌||◌, List, [], ◌∷◌, ℕ, ◌+◌, ◌*◌, ℤ, ltb, eqb, length}
use Rattle.rules.specs.Lists.{some_of, first_place, written, zeros}
use Rattle.rules.specs.Streams.{Stream, streams, most, beyond}
use Rattle.rules.specs.Use.{envelope}

pub data Answer (A : Type 0) : Type 0 where
  refused : (number place : ℕ) → Answer A
  done : A → Answer A

-- ---- tests in order

-- the refusal of this number and place is given where the condition holds
pub record Test : Type 0 where
  pub number : ℕ
  pub place : ℕ
  pub holds : Bool

abbrev pub test : ℕ → ℕ → Bool → Test
test number place holds = record { number = number; place = place; holds = holds }

-- the first test that holds decides; where none does the entry is done
abbrev pub unless : {A : Type 0} → List Test → A → Answer A
unless [] x = done x
unless (t ∷ ts) x = cond t.holds (refused t.number t.place) (unless ts x)

-- "the two lists differ in length"
abbrev pub lengths_differ : {A B : Type 0} → List A → List B → Test
lengths_differ es ns = test 1 0 (not (eqb (length es) (length ns)))

-- "over 65,536 samples, list items, corners or joined corners"
abbrev pub too_many : ℕ → Test
too_many n = test 2 0 (ltb most n)

-- "a part beyond the limit": first place
abbrev pub part_beyond : List Stream → Test
part_beyond xs = test 3 (first_place beyond xs) (some_of beyond xs)

-- "0 for a course or single stream"
abbrev pub single_beyond : Stream → Test
single_beyond s = test 3 0 (beyond s)

-- "at least 16c + 64 of them"
abbrev pub scratch_short : ℕ → List ℕ → Test
scratch_short c scratch = test 4 0 (ltb (length scratch) (16 * c + 64))

-- "an output list shorter than the result"
abbrev pub output_short : Bool → Test
output_short short = test 5 0 short

-- the tests of a ring that comes as two lists: 1, 2, 3 and, after what else is tested between, 9
abbrev pub ring_tests : List ℤ → List ℤ → List Test
ring_tests es ns = lengths_differ es ns ∷ too_many (length es) ∷ part_beyond (streams es ns) ∷ []

abbrev pub not_envelope : List ℤ → List ℤ → Test
not_envelope es ns = test 9 0 (not (envelope (streams es ns)))

-- ---- what was lent, afterwards

-- an output list: the result at its front where the entry is done, and as it was where it is refused
abbrev pub output_after : {A B : Type 0} → (A → List B) → Answer A → List B → List B
output_after result (refused number place) old = old
output_after result (done x) old = written (result x) old

-- scratch: zero when done, and after 5 and 18
abbrev pub scratch_after : {A : Type 0} → Answer A → List ℕ → List ℕ
scratch_after (refused number place) old = cond (eqb number 5 || eqb number 18) (zeros old) old
scratch_after (done x) old = zeros old
