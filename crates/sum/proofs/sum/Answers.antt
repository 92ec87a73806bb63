-- The tests of both rings, then the sum's own.
use Rattle.std.specs.Prelude.{◌≡◌, refl, List, [], ℕ, ◌<◌, ℤ, length, Err}
use Rattle.std.proofs.Common.{sym, ap, ◌∙◌, rules}
use Rattle.rules.specs.Lists.{zeros}
use Rattle.rules.specs.Streams.{Stream, streams}
use Rattle.rules.specs.Use.{sum}
use Rattle.rules.specs.Refusals.{Answer, refused, done, unless}
use Rattle.rules.specs.Entries.{two_ring_tests, sum_answer}
use Rattle.samples.specs.Answers.{number_of}
use Rattle.samples.specs.InOrder.{then_answer, answer_by, quiet-number}
use Rattle.envelope.specs.TwoRings.{Rings, two_passed}
use Rattle.closing.specs.RingPromise.{outcome_as, outcome_refused}
use Rattle.sum.specs.Entry.{own_tests, too_far_refused, near_passes, nothing-beyond, nothing_written, empty_first, empty_second}
use Rattle.sum.proofs.sum.Goals as goal
use Rattle.sum.proofs.sum.Goals.{then-is_empty-via-then-is_empty, then-is_empty-via-else-is_empty+then-is_empty-2}

module _ (es ns fs ms oe on : List ℤ) (scratch : List ℕ) where
  -- the sum
  abbrev whole : List Stream
  whole = sum (streams es ns) (streams fs ms)

  -- what the entry answers, by what the tests of both rings said
  after : {t : Answer (Unit {0})} → t ≡ unless (two_ring_tests es ns fs ms scratch) tt
      → sum_answer es ns fs ms oe on scratch ≡ then_answer t (unless (own_tests oe on whole) whole)
  unfolding sum_answer
  after e = answer_by (two_ring_tests es ns fs ms scratch) (own_tests oe on whole) whole tt (sym e)

  -- two rings that passed them
  rings : done (tt {0}) ≡ unless (two_ring_tests es ns fs ms scratch) tt → Rings es ns fs ms
  rings e = (two_passed es ns fs ms scratch tt (sym e)).0

pub returns-in_err-two_rings : goal.returns-in_err-two_rings
returns-in_err-two_rings c =
    let a = c.args in
    let said = c.in_err-two_rings.ensures in
    let e : c.from_residual.result ≡ Err c.in_err-two_rings.field-0.0 = search rules in
    rw e (outcome_refused (after a.east.now a.north.now a.east2.now a.north2.now a.out_east.now a.out_north.now a.scratch.now said) refl
    (quiet-number tt (two_ring_tests a.east.now a.north.now a.east2.now a.north2.now a.scratch.now) tt (sym said)))

pub returns-then-is_empty : goal.returns-then-is_empty
returns-then-is_empty c =
    let a = c.args in
    let s = whole a.east.now a.north.now a.east2.now a.north2.now a.out_east.now a.out_north.now a.scratch.now in
    let empty : s ≡ [] = elim c.then-is_empty.branch [
      | then-is_empty-via-then-is_empty w ↦ empty_first a.east.now a.north.now (streams a.east2.now a.north2.now) (search rules)
      | then-is_empty-via-else-is_empty+then-is_empty-2 w ↦ empty_second (streams a.east.now a.north.now) a.east2.now a.north2.now (search rules)
    ] in
    let cleared : c.clear.new.w ≡ zeros a.scratch.now = search rules in
    outcome_as
    (after a.east.now a.north.now a.east2.now a.north2.now a.out_east.now a.out_north.now a.scratch.now c.in_ok-two_rings.ensures
    ∙ near_passes a.out_east.now a.out_north.now s (nothing-beyond empty))
    (nothing_written a.out_east.now a.out_north.now a.scratch.now empty cleared)

pub invariant_of-first : goal.invariant_of-first
invariant_of-first c =
    let a = c.args in
    let r = rings a.east.now a.north.now a.east2.now a.north2.now a.out_east.now a.out_north.now a.scratch.now c.in_ok-two_rings.ensures in
    let some : 0 < length a.east.now = search rules in
    record { one = record { sampled = r.first.sampled; some = some } }

pub invariant_of-second : goal.invariant_of-second
invariant_of-second c =
    let a = c.args in
    let r = rings a.east.now a.north.now a.east2.now a.north2.now a.out_east.now a.out_north.now a.scratch.now c.in_ok-two_rings.ensures in
    let some : 0 < length a.east2.now = search rules in
    record { one = record { sampled = r.second.sampled; some = some } }

pub returns-then-too_far : goal.returns-then-too_far
returns-then-too_far c =
    let a = c.args in
    let s = whole a.east.now a.north.now a.east2.now a.north2.now a.out_east.now a.out_north.now a.scratch.now in
    outcome_refused
    (after a.east.now a.north.now a.east2.now a.north2.now a.out_east.now a.out_north.now a.scratch.now c.in_ok-two_rings.ensures
    ∙ too_far_refused a.out_east.now a.out_north.now s c.if-too_far.ensures)
    (ap (λ r. refused (number_of r.reason) r.place) c.into.ensures) refl

pub write_sum-requires : goal.write_sum-requires
write_sum-requires c =
    let a = c.args in
    rings a.east.now a.north.now a.east2.now a.north2.now a.out_east.now a.out_north.now a.scratch.now c.in_ok-two_rings.ensures

pub returns : goal.returns
returns c =
    let a = c.args in
    let s = whole a.east.now a.north.now a.east2.now a.north2.now a.out_east.now a.out_north.now a.scratch.now in
    outcome_as
    (after a.east.now a.north.now a.east2.now a.north2.now a.out_east.now a.out_north.now a.scratch.now c.in_ok-two_rings.ensures
    ∙ near_passes a.out_east.now a.out_north.now s c.if-too_far.ensures)
    c.write_sum.ensures
