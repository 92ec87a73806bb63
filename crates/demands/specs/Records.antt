-- The record reader, over the promise of the entry: a call that is done leaves the going-to ring that the record means, an envelope, at the front of both outputs.
-- A call is any that the entry's own promise allows. Assumes nothing.
use Rattle.std.specs.Prelude.{◌≡◌, true, false, cond, List, map, ℕ, ◌≤◌, ℤ, length, Result, Ok}
use Rattle.std.proofs.Common.{sym, ap, ◌∙◌, arith, ltb-false}
use contract.Lifetimes.{Lfts}
use denote.Triple.Clauses.{AtExit}
use borrow.Fn.Kinds.{Dens, ended_of}
use Rattle.std.proofs.lemmas.Bool.{not-false}
use Rattle.rules.specs.Lists.{some_of}
use Rattle.rules.specs.Streams.{Stream, most, beyond, turned}
use Rattle.rules.specs.Use.{envelope}
use Rattle.rules.specs.Record.{coming_from, sense, stored, meant}
use Rattle.rules.specs.Refusals.{done}
use Rattle.rules.specs.Entries.{frame_tests, corner_tests, record_tests, record_answer}
use Rattle.laws_refusals.specs.NoneHold.{none_either}
use Rattle.laws_records.specs.InSense.{sense_near, sense-envelope, sense-length}
use Rattle.samples.specs.Answers.{answer_of}
use Rattle.reader.proofs.read_record.Kinds as kinds
use Rattle.reader.proofs.read_record.Reads as reads
use Rattle.demands.specs.Done.{not_refused, Left, ring-left}
use Rattle.samples.specs.declared.refusals.Refusal.{Refusal}

-- a call of the reader
pub record Reading : Type 1 where
  pub lifetimes : Lfts 3
  pub given : Dens lifetimes kinds.ps
  pub answer : Result ℕ Refusal
  pub left : AtExit (ended_of 3 kinds.ps kinds.r) lifetimes
  pub promised : reads.Post lifetimes given answer left

-- the record that it is given, the ring that this means, the two outputs as they came and as it leaves them
abbrev pub bytes : Reading → List ℕ
bytes c = c.given.0.now

abbrev pub corners : Reading → List Stream
corners c = meant (bytes c)

abbrev pub east_before : Reading → List ℤ
east_before c = c.given.1.0.now

abbrev pub north_before : Reading → List ℤ
north_before c = c.given.1.1.0.now

abbrev pub east_after : Reading → List ℤ
east_after c = c.left.1.0.now

abbrev pub north_after : Reading → List ℤ
north_after c = c.left.1.1.0.now

-- streams behind the corners as stored, as they are meant: with both signs changed where the record is coming from
abbrev pub as_meant : Reading → List Stream → List Stream
as_meant c xs = cond (coming_from (sense (bytes c))) (map turned xs) xs

-- what a call that is done did
pub record Read-up (c : Reading) (n : ℕ) : Type 0 where
  pub ring-stored : envelope (stored (bytes c)) ≡ true
  pub answered : record_answer (bytes c) (east_before c) (north_before c) ≡ done (corners c)
  pub few : length (corners c) ≤ most
  pub near : some_of beyond (corners c) ≡ false
  pub ring-read : envelope (corners c) ≡ true
  pub left : Left (corners c) n (east_after c) (north_after c)

pub reading_done : (c : Reading) {n : ℕ} → c.answer ≡ Ok n → Read-up c n
unfolding record_answer
reading_done c {n} e =
    let ts = record_tests (bytes c) (east_before c) (north_before c) in
    let s = sense (bytes c) in
    let r = stored (bytes c) in
    let d = ring-left ts (corners c) (east_before c) (north_before c)
    (sym (ap answer_of e) ∙ c.promised.0)
    c.promised.1.0
    c.promised.1.1 in
    let tests = (none_either (frame_tests (bytes c)) (corner_tests s r (east_before c) (north_before c)) d.0).1 in
    let is = not-false (envelope r) tests.1.1.0 in
    record {
      ring-stored = is;
      answered = not_refused ts (corners c) d.0;
      few = omega (arith, sense-length s r is, ltb-false most (length r) tests.0);
      near = sense_near s r tests.1.0;
      ring-read = sense-envelope s r is;
      left = d.1;
    }
