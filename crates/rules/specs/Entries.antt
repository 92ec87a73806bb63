-- The outcome of every entry, for all inputs: the answer, and the content of everything lent. A promise is one equation for the answer and one for each
-- lent list, over these.
-- Assumes nothing.
use Rattle.std.specs.Prelude.{Bool, true, false, not, ◌&&◌, ◌||◌, List, [], ◌∷◌, ◌++◌, map, ℕ, ◌+◌, ◌%◌, ℤ, pos, leb, ltb, eqb, Float, length}
use Rattle.std.proofs.Math.Option.{Option, none, some}
use Rattle.rules.specs.Lists.{some_of, first_place, written}
use Rattle.rules.specs.Streams.{Stream, stream, streams, sample, most, beyond, mirrored, eqZ}
use Rattle.rules.specs.Chain.{upper_numbers, lower_numbers}
use Rattle.rules.specs.Ring.{ring}
use Rattle.rules.specs.Picker.{rank}
use Rattle.rules.specs.Step.{chain_by_steps}
use Rattle.rules.specs.Bridge.{Bridge, ends, bridge, spans, reported}
use Rattle.rules.specs.Round.{Said, found, kept, round}
use Rattle.rules.specs.Use.{envelope, HandAt, hand_for, next_place, moved_on, strongest, strongest_place, covers, join, sum, turn_about}
use Rattle.rules.specs.Door.{Readings, taken, bad, bad_float, readings}
use Rattle.rules.specs.Record.{known_version, head_size, size_of_sense, corner_size, in_sense, version, said_length, said_end, sense, stored, meant, record_of}
use Rattle.rules.specs.Refusals.{Answer, refused, done, Test, test, unless, lengths_differ, too_many, part_beyond, single_beyond, scratch_short, output_short, ring_tests, not_envelope}

abbrev pub is_none : {A : Type 0} → Option A → Bool
is_none none = true
is_none (some x) = false

-- ---- rank picker: 2, 8, 4

unfoldable pub pick_answer : List ℤ → ℕ → List ℕ → Answer ℤ
pick_answer xs r scratch =
    unless
    (too_many (length xs) ∷ test 8 0 (eqb r 0 || ltb (length xs) r) ∷ scratch_short (length xs) scratch ∷ [])
    (rank r xs)

-- ---- round: 1, 2, 3, 7, 4, 6, 5

abbrev pub kept_list : {A : Type 0} → Said A → List A
kept_list (found b) = []
kept_list (kept l) = l

unfoldable pub round_answer : List ℤ → List ℤ → List ℕ → ℤ → List ℕ → List ℕ → Answer (Said ℕ)
round_answer es ns list a output scratch =
    let xs = streams es ns in
    let said = round (sample xs) a list in
    unless
    (lengths_differ es ns
    ∷ test 2 0 (ltb most (length es) || ltb most (length list))
    ∷ part_beyond xs
    ∷ test 7 (first_place (λ i. leb (length es) i) list) (some_of (λ i. leb (length es) i) list)
    ∷ scratch_short (length list) scratch
    ∷ test 6 0 (not (spans a (map (sample xs) list)))
    ∷ output_short (ltb (length output) (length (kept_list said)))
    ∷ [])
    said

-- ---- bridge: 1, 2, 3, 4, 6

abbrev pub reported_bridge : List Stream → Option (Bridge Stream) → Bridge ℕ
reported_bridge xs none = ends 0 0
reported_bridge xs (some b) = reported xs b

unfoldable pub bridge_answer : List ℤ → List ℤ → ℤ → List ℕ → Answer (Bridge ℕ)
bridge_answer es ns a scratch =
    let xs = streams es ns in
    unless
    (lengths_differ es ns
    ∷ too_many (length es)
    ∷ part_beyond xs
    ∷ scratch_short (length es) scratch
    ∷ test 6 0 (not (spans a xs))
    ∷ [])
    (reported_bridge xs (bridge xs a))

-- ---- chains and ring: 1, 2, 3, 4, 18, 5

-- "a chain step's list has no bridge over its a", on either side
unfoldable pub step_without_bridge : List Stream → Bool
step_without_bridge xs = is_none (chain_by_steps xs) || is_none (chain_by_steps (map mirrored xs))

-- the tests before 5 of an entry that makes the steps over samples
abbrev pub sample_tests : List ℤ → List ℤ → List ℕ → List Test
sample_tests es ns scratch =
    lengths_differ es ns
    ∷ too_many (length es)
    ∷ part_beyond (streams es ns)
    ∷ scratch_short (length es) scratch
    ∷ test 18 0 (step_without_bridge (streams es ns))
    ∷ []

pub record Chains : Type 0 where
  pub upper : List ℕ
  pub lower : List ℕ

unfoldable pub chains_answer : List ℤ → List ℤ → List ℕ → List ℕ → List ℕ → Answer Chains
chains_answer es ns upper lower scratch =
    let u = upper_numbers (streams es ns) in
    let l = lower_numbers (streams es ns) in
    unless
    (sample_tests es ns scratch
    ++ (output_short (ltb (length upper) (length u) || ltb (length lower) (length l)) ∷ []))
    (record { upper = u; lower = l })

-- a ring written to two output lists of parts is too long for one of them
abbrev pub ring_short : List ℤ → List ℤ → List Stream → Test
ring_short east north r = output_short (ltb (length east) (length r) || ltb (length north) (length r))

-- the parts of a ring's corners
abbrev pub easts : List Stream → List ℤ
easts r = map (λ s. s.east) r

abbrev pub norths : List Stream → List ℤ
norths r = map (λ s. s.north) r

-- an answer whose list lies in the outputs says its count
abbrev pub counted : {A : Type 0} → Answer (List A) → Answer ℕ
counted (refused number place) = refused number place
counted (done r) = done (length r)

unfoldable pub ring_answer : List ℤ → List ℤ → List ℤ → List ℤ → List ℕ → Answer (List Stream)
ring_answer es ns east north scratch =
    let r = ring (streams es ns) in
    unless (sample_tests es ns scratch ++ (ring_short east north r ∷ [])) r

-- ---- ring hand: 2, 10. A refused step hands back the hand as it came

unfoldable pub hand_answer : ℕ → Answer HandAt
hand_answer m = unless (too_many m ∷ test 10 0 (eqb m 0) ∷ []) (hand_for m)

pub record HandStep : Type 0 where
  pub from : ℕ
  pub to : ℕ

unfoldable pub hand_step_answer : HandAt → Answer HandStep
hand_step_answer h =
    unless (too_many h.count ∷ test 10 0 (leb h.count h.place) ∷ []) (record { from = h.place; to = next_place h })

abbrev pub hand_after : Answer HandStep → HandAt → HandAt
hand_after (refused number place) h = h
hand_after (done edge) h = moved_on h

-- ---- strongest set: 1, 2, 3, 3, 9, 10, 11

pub record Strongest : Type 0 where
  pub set : ℤ
  pub place : ℕ

abbrev pub strongest_of : ℤ → ℤ → List Stream → Strongest
strongest_of x y [] = record { set = pos 0; place = 0 }
strongest_of x y (p ∷ ps) = record { set = strongest x y p ps; place = strongest_place x y p ps }

unfoldable pub strongest_answer : List ℤ → List ℤ → ℤ → ℤ → Answer Strongest
strongest_answer es ns x y =
    unless
    (ring_tests es ns
    ++ (single_beyond (stream x y)
    ∷ not_envelope es ns
    ∷ test 10 0 (eqb (length es) 0)
    ∷ test 11 0 (eqZ x (pos 0) && eqZ y (pos 0))
    ∷ []))
    (strongest_of x y (streams es ns))

-- ---- cover test: 1, 2, 3, 3, 9

unfoldable pub cover_answer : List ℤ → List ℤ → ℤ → ℤ → Answer Bool
cover_answer es ns x y =
    unless (ring_tests es ns ++ (single_beyond (stream x y) ∷ not_envelope es ns ∷ [])) (covers (streams es ns) (stream x y))

-- ---- turn about: 1, 2, 3, 9, 5

unfoldable pub turn_answer : List ℤ → List ℤ → List ℤ → List ℤ → Answer (List Stream)
turn_answer es ns east north =
    let r = turn_about (streams es ns) in
    unless (ring_tests es ns ++ (not_envelope es ns ∷ ring_short east north r ∷ [])) r

-- ---- join and sum: first ring (1, 2, 3, 9), second ring, 2 for both, 4, 5; in a sum 19 goes before 5

-- the tests of two rings that come with scratch for both
abbrev pub two_ring_tests : List ℤ → List ℤ → List ℤ → List ℤ → List ℕ → List Test
two_ring_tests es ns fs ms scratch =
    let both = length es + length fs in
    ring_tests es ns
    ++ (not_envelope es ns ∷ [])
    ++ ring_tests fs ms
    ++ (not_envelope fs ms ∷ too_many both ∷ scratch_short both scratch ∷ [])

unfoldable pub join_answer : List ℤ → List ℤ → List ℤ → List ℤ → List ℤ → List ℤ → List ℕ → Answer (List Stream)
join_answer es ns fs ms east north scratch =
    let r = join (streams es ns) (streams fs ms) in
    unless (two_ring_tests es ns fs ms scratch ++ (ring_short east north r ∷ [])) r

-- "a corner of the sum is beyond the limit, place 0"
abbrev pub sum_beyond : List Stream → Test
sum_beyond r = test 19 0 (some_of beyond r)

unfoldable pub sum_answer : List ℤ → List ℤ → List ℤ → List ℤ → List ℤ → List ℤ → List ℕ → Answer (List Stream)
sum_answer es ns fs ms east north scratch =
    let r = sum (streams es ns) (streams fs ms) in
    unless (two_ring_tests es ns fs ms scratch ++ (sum_beyond r ∷ ring_short east north r ∷ [])) r

-- ---- float door: 1, 2, 12 to 14, 5. What it answers has its own form, since 13 and 14 hand back the float

pub data DoorAnswer : Type 0 where
  door_done : (count : ℕ) → DoorAnswer
  door_refused : (number place : ℕ) → DoorAnswer
  door_refused_float : (number place : ℕ) → Float → DoorAnswer

-- the answer's refusal, or else what comes after its tests
abbrev pub door_refusal : Answer ℕ → DoorAnswer → DoorAnswer
door_refusal (refused number place) d = door_refused number place
door_refusal (done n) d = d

abbrev pub door_of : List ℤ → List ℤ → Readings → DoorAnswer
door_of east north (bad k i) = door_refused k i
door_of east north (bad_float k i f) = door_refused_float k i f
door_of east north (taken xs ys) =
    door_refusal (unless (output_short (ltb (length east) (length xs) || ltb (length north) (length xs)) ∷ []) 0) (door_done (length xs))

unfoldable pub door_answer : List Float → List Float → List ℤ → List ℤ → DoorAnswer
door_answer es ns east north =
    door_refusal (unless (lengths_differ es ns ∷ too_many (length es) ∷ []) 0) (door_of east north (readings 0 es ns))

abbrev pub taken_east : Readings → List ℤ
taken_east (taken xs ys) = xs
taken_east (bad k i) = []
taken_east (bad_float k i f) = []

abbrev pub taken_north : Readings → List ℤ
taken_north (taken xs ys) = ys
taken_north (bad k i) = []
taken_north (bad_float k i f) = []

-- an output list afterwards, with the parts that the readings gave
abbrev pub door_output_after : List ℤ → DoorAnswer → List ℤ → List ℤ
door_output_after parts (door_done n) old = written parts old
door_output_after parts (door_refused k i) old = old
door_output_after parts (door_refused_float k i f) old = old

-- ---- record reader: 17 if empty, 16, 17 for under 5 bytes, 21, 17 or 20, 22, 2, 3, 9, 5

-- "a version other than 1 or 2"
abbrev pub other_version : ℕ → Test
other_version v = test 16 0 (not (known_version v))

-- "the bytes end early", before so many are there. The place is "the offset of the first missing byte", which is the number of bytes given
abbrev pub ends_early : List ℕ → ℕ → Test
ends_early bs end = test 17 (length bs) (ltb (length bs) end)

-- the bytes around the corners. "The length is not a multiple of 8", and "in version 2 the length less one": the place is 1, where the length stands. "Bytes
-- follow the end": the place is "the offset .. of the first extra byte". "Sense byte above 1": the place is 5, where it stands
abbrev pub frame_tests : List ℕ → List Test
frame_tests bs =
    ends_early bs 1
    ∷ other_version (version bs)
    ∷ ends_early bs head_size
    ∷ test 21 1 (not (eqb (said_length bs % corner_size) (size_of_sense (version bs))))
    ∷ ends_early bs (said_end bs)
    ∷ test 20 (said_end bs) (ltb (said_end bs) (length bs))
    ∷ test 22 head_size (ltb 1 (sense bs))
    ∷ []

-- the corners as stored, and room for the ring meant
abbrev pub corner_tests : ℕ → List Stream → List ℤ → List ℤ → List Test
corner_tests s r east north = too_many (length r) ∷ part_beyond r ∷ test 9 0 (not (envelope r)) ∷ ring_short east north (in_sense s r) ∷ []

abbrev pub record_tests : List ℕ → List ℤ → List ℤ → List Test
record_tests bs east north = frame_tests bs ++ corner_tests (sense bs) (stored bs) east north

unfoldable pub record_answer : List ℕ → List ℤ → List ℤ → Answer (List Stream)
record_answer bs east north = unless (record_tests bs east north) (meant bs)

-- ---- record writer: 16, 22, 1, 2, 3, 9, 5

-- the version and the sense to be written. "Sense above 1, or sense 1 with version 1"
abbrev pub form_tests : ℕ → ℕ → List Test
form_tests v s = other_version v ∷ test 22 0 (ltb 1 s || (eqb s 1 && eqb v 1)) ∷ []

abbrev pub write_tests : ℕ → ℕ → List ℤ → List ℤ → List ℕ → List Test
write_tests v s es ns out =
    form_tests v s
    ++ ring_tests es ns
    ++ (not_envelope es ns ∷ output_short (ltb (length out) (length (record_of v s (streams es ns)))) ∷ [])

unfoldable pub write_answer : ℕ → ℕ → List ℤ → List ℤ → List ℕ → Answer (List ℕ)
write_answer v s es ns out = unless (write_tests v s es ns out) (record_of v s (streams es ns))
