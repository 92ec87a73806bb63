-- The record writer, over the promise of the entry, and beside it the reader: one statement for every version and sense. A call of the writer that is done leaves the
-- record of its ring, an envelope, at the front of the output. Wherever neither call is refused, reading what was written gives the same ring, and writing what was
-- read in its version and sense the same bytes; so a ring has one record for each version and sense, and a record one ring. A call is any that the entry's own
-- promise allows. Assumes nothing.
use Rattle.std.specs.Prelude.{◌≡◌, true, ℕ, ◌≤◌, ℤ, take, Result, Ok}
use Rattle.std.proofs.Math.Path.{sym, ap, subst}
use Rattle.std.proofs.Common.{ap₂, ◌∙◌, arith, eqb-true, ltb-false, eq-eqb, le-ltb}
use Rattle.std.proofs.Math.Bool.{false, not}
use mathlib.Core.List.{List, [], ◌∷◌, ◌++◌}
use Rattle.std.proofs.Math.Dec.{ltb}
use Rattle.std.proofs.Math.ListN.{length}
use contract.Lifetimes.{Lfts}
use denote.Triple.Clauses.{AtExit}
use borrow.Fn.Kinds.{Dens, ended_of}
use Rattle.std.proofs.lemmas.Bool.{not-false}
use Rattle.rules.specs.Lists.{some_of}
use Rattle.rules.specs.Streams.{Stream, streams, most, beyond}
use Rattle.rules.specs.Use.{envelope}
use Rattle.rules.specs.Record as layout
use Rattle.rules.specs.Record.{meant, record_of}
use Rattle.rules.specs.Refusals.{Answer, done, Test, output_short, ring_tests, not_envelope, output_after}
use Rattle.rules.specs.Entries.{easts, norths, counted, record_answer, form_tests, write_tests, write_answer}
use Rattle.laws_refusals.specs.NoneHold.{none_after}
use Rattle.laws_records.specs.Layout.{Bytes}
use Rattle.laws_records.specs.OneRecord as laws
use Rattle.samples.specs.Samples.{streams-length, streams-easts, streams-norths}
use Rattle.samples.specs.Outputs.{front}
use Rattle.samples.specs.Answers.{answer_of, answer_of_injective}
use Rattle.writer.proofs.write_record.Kinds as kinds
use Rattle.writer.proofs.write_record.Reads as reads
use Rattle.demands.specs.Done.{None_hold, not_refused, counted-left, left_even, left-ring, left_as_given}
use Rattle.demands.specs.Records as reading
use Rattle.demands.specs.Records.{Reading, reading_done}
use Rattle.samples.specs.declared.refusals.Refusal.{Refusal}

-- a call of the writer
pub record Writing : Type 1 where
  pub lifetimes : Lfts 3
  pub given : Dens lifetimes kinds.ps
  pub answer : Result ℕ Refusal
  pub left : AtExit (ended_of 3 kinds.ps kinds.r) lifetimes
  pub promised : reads.Post lifetimes given answer left

-- the version, the sense and the ring that it is given, the output as it came and as it leaves it
abbrev pub version : Writing → ℕ
version c = c.given.0

abbrev pub sense : Writing → ℕ
sense c = c.given.1.0

abbrev pub east : Writing → List ℤ
east c = c.given.1.1.0.now

abbrev pub north : Writing → List ℤ
north c = c.given.1.1.1.0.now

abbrev pub corners : Writing → List Stream
corners c = streams (east c) (north c)

abbrev pub out_before : Writing → List ℕ
out_before c = c.given.1.1.1.1.0.now

abbrev pub out_after : Writing → List ℕ
out_after c = c.left.1.1.1.1.0.now

-- its tests, its record, and what a call that is done did
abbrev tests : Writing → List Test
tests c = write_tests (version c) (sense c) (east c) (north c) (out_before c)

abbrev pub record_left : Writing → List ℕ
record_left c = record_of (version c) (sense c) (corners c)

pub record Written-up (c : Writing) (n : ℕ) : Type 0 where
  pub formed : None_hold (form_tests (version c) (sense c))
  pub even : length (east c) ≡ length (north c)
  pub few : length (corners c) ≤ most
  pub near : some_of beyond (corners c) ≡ false
  pub ring_given : envelope (corners c) ≡ true
  pub count : n ≡ length (record_left c)
  pub bytes_left : take n (out_after c) ≡ record_left c

pub writing_done : (c : Writing) {n : ℕ} → c.answer ≡ Ok n → Written-up c n
unfolding write_answer
writing_done c {n} e =
    let bytes = record_left c in
    let (none, answered, count) = counted-left (tests c) bytes (sym (ap answer_of e) ∙ c.promised.0) in
    let given = none.1.1 in
    let even = eqb-true (length (east c)) (length (north c)) (not-false _ given.0) in
    record {
      formed = (none.0, (none.1.0, tt));
      even = even;
      few = omega (arith, streams-length (east c) (north c) even, ltb-false most (length (east c)) given.1.0);
      near = given.1.1.0;
      ring_given = not-false _ given.1.1.1.0;
      count = count;
      bytes_left =
          ap (take n) (c.promised.1 ∙ ap (λ (t : Answer (List ℕ)). output_after (λ bs. bs) t (out_before c)) answered)
          ∙ front bytes (out_before c) n (sym count);
    }

-- ---- and read again

module _ (c : Writing) (d : Reading) {n : ℕ} (written : c.answer ≡ Ok n) (given : reading.bytes d ≡ take n (out_after c)) where
  done_writing : Written-up c n
  done_writing = writing_done c written

  record_given : reading.bytes d ≡ record_left c
  record_given = given ∙ done_writing.bytes_left

  -- reading what was written gives the same ring
  pub ring_again : {m : ℕ} → d.answer ≡ Ok m →
      (m ≡ length (east c)) × (take m (reading.east_after d) ≡ east c) × (take m (reading.north_after d) ≡ north c)
  ring_again e =
      let w = done_writing in
      left_as_given (reading_done d e).left w.even
      (ap meant record_given ∙ laws.record_ring (version c) (sense c) (corners c) w.formed w.near w.ring_given)

  -- and is not refused where there is room for it
  pub ring_taken : length (east c) ≤ length (reading.east_before d) → length (east c) ≤ length (reading.north_before d) →
      d.answer ≡ Ok (length (east c))
  ring_taken h k =
      let w = done_writing in
      let many = streams-length (east c) (north c) w.even in
      let read = laws.written_reads (version c) (sense c) (corners c) w.formed w.few w.near w.ring_given
      (reading.east_before d)
      (reading.north_before d)
      (omega (arith, many))
      (omega (arith, many)) in
      answer_of_injective d.answer (Ok (length (east c)))
      (d.promised.0
      ∙ ap (λ (bs : List ℕ). counted (record_answer bs (reading.east_before d) (reading.north_before d))) record_given
      ∙ ap counted read
      ∙ ap done many)

-- ---- and written again, in the same version and sense

module _ (d : Reading) (c : Writing) {m : ℕ} (read : d.answer ≡ Ok m) (bytes : Bytes (reading.bytes d))
    (version_given : version c ≡ layout.version (reading.bytes d)) (sense_given : sense c ≡ layout.sense (reading.bytes d))
    (east_given : east c ≡ take m (reading.east_after d)) (north_given : north c ≡ take m (reading.north_after d)) where
  done_reading : reading.Read-up d m
  done_reading = reading_done d read

  ring_given : corners c ≡ reading.corners d
  ring_given = ap₂ streams east_given north_given ∙ left-ring done_reading.left

  record_given_back : record_left c ≡ reading.bytes d
  record_given_back =
      (λ k. record_of (version_given k) (sense_given k) (ring_given k))
      ∙ laws.read_writes (reading.bytes d) (reading.east_before d) (reading.north_before d) done_reading.answered bytes

  -- writing what was read gives the same bytes
  pub bytes_again : {n : ℕ} → c.answer ≡ Ok n → (n ≡ length (reading.bytes d)) × (take n (out_after c) ≡ reading.bytes d)
  bytes_again e =
      let w = writing_done c e in
      (w.count ∙ ap length record_given_back, w.bytes_left ∙ record_given_back)

  -- and is not refused where there is room for them
  pub bytes_taken : length (reading.bytes d) ≤ length (out_before c) → c.answer ≡ Ok (length (reading.bytes d))
  unfolding write_answer
  bytes_taken room =
      let r = done_reading in
      let even : length (east c) ≡ length (north c) = ap length east_given ∙ left_even r.left ∙ sym (ap length north_given) in
      let many : length (east c) ≡ length (reading.corners d) = sym (streams-length (east c) (north c) even) ∙ ap length ring_given in
      let short : ltb (length (out_before c)) (length (record_left c)) ≡ false =
      rw record_given_back (le-ltb (length (out_before c)) (length (reading.bytes d)) room) in
      let bs = reading.bytes d in
      let formed = subst (λ (v : ℕ). None_hold (form_tests v (sense c))) (sym version_given)
      (subst (λ (s : ℕ). None_hold (form_tests (layout.version bs) s)) (sym sense_given)
      (laws.read_formed bs (reading.east_before d) (reading.north_before d) r.answered)) in
      let written = not_refused (tests c) (record_left c)
      (none_after (form_tests (version c) (sense c))
      (ring_tests (east c) (north c) ++ (not_envelope (east c) (north c) ∷ output_short (ltb (length (out_before c)) (length (record_left c))) ∷ []))
      formed (
        ap not (eq-eqb (length (east c)) (length (north c)) even),
        (le-ltb most (length (east c)) (omega (arith, r.few)), (rw ring_given r.near, (ap not (ap envelope ring_given ∙ r.ring-read), (short, tt)))),
      )) in
      answer_of_injective c.answer (Ok (length (reading.bytes d)))
      (c.promised.0 ∙ ap counted written ∙ ap (λ (bs : List ℕ). done (length bs)) record_given_back)

-- ---- one record for each version and sense, one ring

-- two records of one version and sense that are read as one ring are the same bytes
pub one_record : (c d : Reading) {n m : ℕ} → c.answer ≡ Ok n → d.answer ≡ Ok m → Bytes (reading.bytes c) → Bytes (reading.bytes d) →
    layout.version (reading.bytes c) ≡ layout.version (reading.bytes d) → layout.sense (reading.bytes c) ≡ layout.sense (reading.bytes d) →
    take n (reading.east_after c) ≡ take m (reading.east_after d) → take n (reading.north_after c) ≡ take m (reading.north_after d) →
    reading.bytes c ≡ reading.bytes d
one_record c d e f b b' hv hs he hn =
    let r = reading_done c e in
    let t = reading_done d f in
    let same = sym (left-ring r.left) ∙ ap₂ streams he hn ∙ left-ring t.left in
    laws.one_record (reading.bytes c) (reading.bytes d) (reading.east_before c) (reading.north_before c) (reading.east_before d) (reading.north_before d) b b' hv hs
    (r.answered ∙ ap done same)
    t.answered

-- two rings that are written as one record are the same lists
pub one-ring : (c d : Writing) {n m : ℕ} → c.answer ≡ Ok n → d.answer ≡ Ok m → take n (out_after c) ≡ take m (out_after d) →
    (east c ≡ east d) × (north c ≡ north d)
one-ring c d e f h =
    let w = writing_done c e in
    let v = writing_done d f in
    let same = laws.one-ring (version c) (sense c) (version d) (sense d) (corners c) (corners d) w.formed v.formed w.near v.near w.ring_given v.ring_given
    (sym w.bytes_left ∙ h ∙ v.bytes_left) in (
      sym (streams-easts (east c) (north c) w.even) ∙ ap easts same ∙ streams-easts (east d) (north d) v.even,
      sym (streams-norths (east c) (north c) w.even) ∙ ap norths same ∙ streams-norths (east d) (north d) v.even,
    )
