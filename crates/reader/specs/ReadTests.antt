-- The outcome of reading a record, test by test in the rules' order.
-- Assumes nothing.
use Rattle.std.specs.Prelude.{◌≡◌, Bool, true, false, ◌||◌, ℕ, ◌+◌, ◌%◌, ◌≤◌, ◌<◌, ℤ, length}
use Rattle.std.proofs.Common.{sym, ◌∙◌, arith}
use Rattle.std.proofs.Math.Path.{ap}
use Rattle.std.proofs.Math.Bool.{not}
use mathlib.Core.List.{List, [], ◌∷◌}
use borrow.Author.Tests.{lt-ltb, le-ltb, eqb-true, ltb-false, not-false}
use Rattle.std.proofs.Math.Dec.{ltb}
use Rattle.rules.specs.Lists.{some_of, first_place}
use Rattle.rules.specs.Streams.{Stream, most, beyond}
use Rattle.rules.specs.Use.{envelope}
use Rattle.rules.specs.Record.{head_size, size_of_sense, corner_size, in_sense, version, said_length, said_end, corners_in, sense, corners_part, stored, meant}
use Rattle.rules.specs.Refusals.{Answer, refused, done, Test, test, unless, too_many, part_beyond}
use Rattle.rules.specs.Entries.{frame_tests, corner_tests, record_answer, ring_short}
use Rattle.laws_refusals.specs.NoneHold.{when_done}
use Rattle.laws_records.specs.InSense.{sense-length}
use Rattle.samples.specs.Scans.{some_by_place}
use Rattle.samples.specs.InOrder.{then_answer, passed_tests, answer_by, refuses, passes}
use Rattle.reader.specs.RecordAnswers.{corners_answer, found}

-- ---- the bytes around the corners

-- by what their tests said
module _ (bs : List ℕ) (es ns : List ℤ) where
  pub after_frame : {t : Answer (ℕ × List ℕ)} → t ≡ unless (frame_tests bs) (found bs) →
      record_answer bs es ns ≡ then_answer t (corners_answer (sense bs) (corners_part bs) es ns)
  unfolding record_answer
  after_frame e = answer_by (frame_tests bs) (corner_tests (sense bs) (stored bs) es ns) (meant bs) (found bs) (sym e)

  -- what is said of the sense and of the corners' bytes that were found is said of the record
  pub framed : {f : ℕ × List ℕ} → unless (frame_tests bs) (found bs) ≡ done f → corners_answer f.0 f.1 es ns ≡ record_answer bs es ns
  framed e =
      ap (λ (f : ℕ × List ℕ). corners_answer f.0 f.1 es ns) (sym (when_done (frame_tests bs) (found bs) e).1)
      ∙ sym (after_frame (sym e))

-- where they are passed the corners start inside
pub long_enough : {A : Type 0} (bs : List ℕ) (x : A) {y : A} → unless (frame_tests bs) x ≡ done y → head_size + size_of_sense (version bs) ≤ length bs
long_enough bs x e =
    let n = (passed_tests x (frame_tests bs) e).1.1 in
    let head = ltb-false (length bs) head_size n.0 in
    let multiple = eqb-true (said_length bs % corner_size) (size_of_sense (version bs)) (not-false _ n.1.0) in
    let end = ltb-false (length bs) (said_end bs) n.1.1.0 in
    omega arith

-- ---- the corners

module _ (s : ℕ) (cs : List ℕ) (es ns : List ℤ) where
  corners : List Stream
  corners = corners_in cs

  ring : List Stream
  ring = in_sense s corners

  -- what is tested after the parts
  last_tests : List Test
  last_tests = test 9 0 (not (envelope corners)) ∷ ring_short es ns ring ∷ []

  pub refused_2 : most < length (corners_in cs) → corners_answer s cs es ns ≡ refused 2 0
  unfolding corners ring last_tests
  refused_2 h = refuses (too_many (length corners)) (part_beyond corners ∷ last_tests) ring (lt-ltb most (length corners) h)

  module _ (few : length (corners_in cs) ≤ most) where
    not_many : corners_answer s cs es ns ≡ unless (part_beyond corners ∷ last_tests) ring
    unfolding corners ring last_tests
    not_many = passes (too_many (length corners)) (part_beyond corners ∷ last_tests) ring (le-ltb most (length corners) few)

    pub refused_3 : (place : ℕ) → place ≡ first_place beyond (corners_in cs) → place < length (corners_in cs) → corners_answer s cs es ns ≡ refused 3 place
    unfolding corners ring last_tests
    refused_3 place e h =
        not_many
        ∙ refuses (part_beyond corners) last_tests ring (some_by_place beyond corners ∙ lt-ltb (first_place beyond corners) (length corners) (omega arith))
        ∙ ap (refused 3) (sym e)

    module _ (near : some_of beyond (corners_in cs) ≡ false) where
      not_beyond : corners_answer s cs es ns ≡ unless last_tests ring
      unfolding corners ring last_tests
      not_beyond = not_many ∙ passes (part_beyond corners) last_tests ring near

      pub refused_9 : envelope (corners_in cs) ≡ false → corners_answer s cs es ns ≡ refused 9 0
      unfolding corners ring last_tests
      refused_9 e = not_beyond ∙ refuses (test 9 0 (not (envelope corners))) (ring_short es ns ring ∷ []) ring (ap not e)

      module _ (is : envelope (corners_in cs) ≡ true) where
        is_one : corners_answer s cs es ns ≡ unless (ring_short es ns ring ∷ []) ring
        unfolding corners ring last_tests
        is_one = not_beyond ∙ passes (test 9 0 (not (envelope corners))) (ring_short es ns ring ∷ []) ring (ap not is)

        -- the ring has as many corners as are stored
        room : {b : Bool} → (ltb (length es) (length (corners_in cs)) || ltb (length ns) (length (corners_in cs))) ≡ b → (ring_short es ns ring).holds ≡ b
        unfolding corners ring
        room e = ap (λ (n : ℕ). ltb (length es) n || ltb (length ns) n) (sense-length s corners is) ∙ e

        pub short : (ltb (length es) (length (corners_in cs)) || ltb (length ns) (length (corners_in cs))) ≡ true → corners_answer s cs es ns ≡ refused 5 0
        unfolding corners ring
        short h = is_one ∙ refuses (ring_short es ns ring) [] ring (room h)

        pub answered : (ltb (length es) (length (corners_in cs)) || ltb (length ns) (length (corners_in cs))) ≡ false →
            corners_answer s cs es ns ≡ done (in_sense s (corners_in cs))
        unfolding corners ring
        answered h = is_one ∙ passes (ring_short es ns ring) [] ring (room h)

-- a first place that is the count is none
pub no_place : (xs : List Stream) (place : ℕ) → place ≡ first_place beyond xs → length xs ≤ place → some_of beyond xs ≡ false
no_place xs place e h = some_by_place beyond xs ∙ le-ltb (first_place beyond xs) (length xs) (omega arith)
