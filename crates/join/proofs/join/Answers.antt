-- Each return is the rules' tests in the order in which the code makes them.
use Rattle.std.specs.Prelude.{◌≡◌, refl, List, [], ◌∷◌, ℤ, Err}
use Rattle.std.proofs.Common.{sym, rules, arith}
use Rattle.rules.specs.Streams.{Stream, streams}
use Rattle.rules.specs.Use.{join}
use Rattle.rules.specs.Refusals.{Test}
use Rattle.rules.specs.Entries.{ring_short, join_answer}
use Rattle.samples.specs.InOrder.{quiet-number}
use Rattle.envelope.specs.Tests.{alone_tests, sound}
use Rattle.envelope.specs.TwoRings.{first_refused, second_refused, many_refused, scratch_refused, all_pass}
use Rattle.closing.specs.RingPromise.{outcome_as, outcome_refused}
use Rattle.join.proofs.join.Goals as goal

-- the join, and the last test
abbrev joined : List ℤ → List ℤ → List ℤ → List ℤ → List Stream
joined east north east2 north2 = join (streams east north) (streams east2 north2)

abbrev own : List ℤ → List ℤ → List Stream → List Test
own out_east out_north r = ring_short out_east out_north r ∷ []

pub returns-in_err-of_ring : goal.returns-in_err-of_ring
unfolding join_answer
returns-in_err-of_ring c =
    let a = c.args in
    let r = joined a.east.now a.north.now a.east2.now a.north2.now in
    let v = sym c.in_err-of_ring.ensures in
    let e : c.from_residual.result ≡ Err c.in_err-of_ring.field-0.0 = search rules in
    rw e (outcome_refused
    (first_refused a.east.now a.north.now a.east2.now a.north2.now a.scratch.now (own a.out_east.now a.out_north.now r) r v) refl
    (quiet-number tt (alone_tests a.east.now a.north.now) tt v))

pub returns-in_err-of_ring-2 : goal.returns-in_err-of_ring-2
unfolding join_answer
returns-in_err-of_ring-2 c =
    let a = c.args in
    let r = joined a.east.now a.north.now a.east2.now a.north2.now in
    let v = sym c.in_err-of_ring-2.ensures in
    let e : c.from_residual-in_err-of_ring-2.result ≡ Err c.in_err-of_ring-2.field-0.0 = search rules in
    rw e (outcome_refused
    (second_refused a.east.now a.north.now a.east2.now a.north2.now a.scratch.now (own a.out_east.now a.out_north.now r) r (sym c.in_ok-of_ring.ensures) v) refl
    (quiet-number tt (alone_tests a.east2.now a.north2.now) tt v))

pub returns-then-both-gt-MOST : goal.returns-then-both-gt-MOST
unfolding join_answer
returns-then-both-gt-MOST c =
    let a = c.args in
    let r = joined a.east.now a.north.now a.east2.now a.north2.now in
    outcome_refused
    (many_refused a.east.now a.north.now a.east2.now a.north2.now a.scratch.now (own a.out_east.now a.out_north.now r) r (sym c.in_ok-of_ring.ensures)
    (sym c.in_ok-of_ring-2.ensures) (omega arith))
    (search rules) refl

pub returns-then-scratch-both : goal.returns-then-scratch-both
unfolding join_answer
returns-then-scratch-both c =
    let a = c.args in
    let r = joined a.east.now a.north.now a.east2.now a.north2.now in
    outcome_refused
    (scratch_refused a.east.now a.north.now a.east2.now a.north2.now a.scratch.now (own a.out_east.now a.out_north.now r) r (sym c.in_ok-of_ring.ensures)
    (sym c.in_ok-of_ring-2.ensures) (omega arith) (omega arith))
    (search rules) refl

pub write_join-requires : goal.write_join-requires
write_join-requires c =
    let a = c.args in
    let one = sound a.east.now a.north.now tt (sym c.in_ok-of_ring.ensures) in
    let two = sound a.east2.now a.north2.now tt (sym c.in_ok-of_ring-2.ensures) in
    (record { first = one; second = two; few = omega arith }, omega arith)

pub returns : goal.returns
unfolding join_answer
returns c =
    let a = c.args in
    let r = joined a.east.now a.north.now a.east2.now a.north2.now in
    outcome_as
    (all_pass a.east.now a.north.now a.east2.now a.north2.now a.scratch.now (own a.out_east.now a.out_north.now r) r (sym c.in_ok-of_ring.ensures)
    (sym c.in_ok-of_ring-2.ensures) (omega arith) (omega arith))
    c.write_join.ensures
