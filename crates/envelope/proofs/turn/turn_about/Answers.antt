use Rattle.std.proofs.Common.{◌≡◌, refl, sym, ap, ◌∙◌, [], ◌∷◌, ◌||◌, ◌≤◌, ℕ, ℤ, List, Bool, true, false, ltb, length, arith, rules, Err}
use Rattle.rules.specs.Streams.{Stream, streams}
use Rattle.rules.specs.Use.{turn_about}
use Rattle.rules.specs.Refusals.{Answer, done, refused, Test, unless}
use Rattle.rules.specs.Entries.{ring_short, turn_answer}
use Rattle.samples.specs.Answers.{number_of}
use Rattle.samples.specs.Samples.{streams-length}
use Rattle.samples.specs.InOrder.{then_answer, answer_by, refuses, passes, fits_both}
use Rattle.laws_rings.specs.Cycle.{turned-length}
use Rattle.envelope.specs.Tests.{alone_tests, Sound, sound}
use Rattle.envelope.specs.Turns.{parts_near, turn_refused, turn_done}
use Rattle.envelope.proofs.turn.turn_about.Goals as goal

-- what the entry answers, by what the tests of the ring said
module _ (es ns oe on : List ℤ) where
  -- the ring turned about, and the test after those of the ring
  abbrev turned_ring : List Stream
  turned_ring = turn_about (streams es ns)

  abbrev short : Test
  short = ring_short oe on turned_ring

  after : {t : Answer (Unit {0})} → t ≡ unless (alone_tests es ns) tt → turn_answer es ns oe on ≡ then_answer t (unless (short ∷ []) turned_ring)
  unfolding turn_answer
  after e = answer_by (alone_tests es ns) (short ∷ []) turned_ring tt (sym e)

  module _ (passed : done (tt {0}) ≡ unless (alone_tests es ns) tt) where
    good : Sound es ns
    good = sound es ns tt (sym passed)

    -- how many corners the ring turned about has
    count : length turned_ring ≡ length es
    count = turned-length (streams es ns) good.is-envelope ∙ streams-length es ns good.sampled.even

    module _ {t : Bool} (tested : t ≡ (ltb (length oe) (length es) || ltb (length on) (length es))) where
      -- what the test of the outputs says of it
      decided : {b : Bool} → t ≡ b → short.holds ≡ b
      decided e = ap (λ (m : ℕ). ltb (length oe) m || ltb (length on) m) count ∙ sym tested ∙ e

      no_room : t ≡ true → turn_answer es ns oe on ≡ refused 5 0
      no_room e = after passed ∙ refuses short [] turned_ring (decided e)

      all_pass : t ≡ false → turn_answer es ns oe on ≡ done turned_ring
      all_pass e = after passed ∙ passes short [] turned_ring (decided e)

      room : t ≡ false → (length es ≤ length oe) × (length es ≤ length on)
      room e = fits_both (length oe) (length on) (length es) (sym tested ∙ e)

pub returns-in_err-of_ring : goal.returns-in_err-of_ring
returns-in_err-of_ring c =
    let a = c.args in
    let e : c.from_residual.result ≡ Err c.in_err-of_ring.field-0.0 = search rules in
    rw e (turn_refused a.east.now a.north.now a.out_east.now a.out_north.now refl
    (after a.east.now a.north.now a.out_east.now a.out_north.now c.in_err-of_ring.ensures))

pub returns-then-too_short : goal.returns-then-too_short
returns-then-too_short c =
    let a = c.args in
    turn_refused a.east.now a.north.now a.out_east.now a.out_north.now
    (ap (λ r. refused (number_of r.reason) r.place) c.into.ensures)
    (no_room a.east.now a.north.now a.out_east.now a.out_north.now c.in_ok-of_ring.ensures c.too_short.ensures (cc))

pub negate_from-requires : goal.negate_from-requires
negate_from-requires c =
    let a = c.args in
    let ring = good a.east.now a.north.now a.out_east.now a.out_north.now c.in_ok-of_ring.ensures in
    let n = streams-length a.east.now a.north.now ring.sampled.even in
    let fits = room a.east.now a.north.now a.out_east.now a.out_north.now c.in_ok-of_ring.ensures c.too_short.ensures (cc) in
    ((parts_near ring.sampled).0, omega (arith, n, c.entry-start.ensures.here), fits.0)

pub negate_from-requires-2 : goal.negate_from-requires-2
negate_from-requires-2 c =
    let a = c.args in
    let ring = good a.east.now a.north.now a.out_east.now a.out_north.now c.in_ok-of_ring.ensures in
    let even = ring.sampled.even in
    let n = streams-length a.east.now a.north.now even in
    let fits = room a.east.now a.north.now a.out_east.now a.out_north.now c.in_ok-of_ring.ensures c.too_short.ensures (cc) in
    ((parts_near ring.sampled).1, omega (arith, n, even, c.entry-start.ensures.here), omega (arith, even, fits.1))

pub returns : goal.returns
returns c =
    let a = c.args in
    let passed = c.in_ok-of_ring.ensures in
    let ring = good a.east.now a.north.now a.out_east.now a.out_north.now passed in
    turn_done a.east.now a.north.now a.out_east.now a.out_north.now ring.sampled ring.is-envelope c.entry-start.ensures refl c.negate_from.ensures
    c.negate_from-2.ensures
    (all_pass a.east.now a.north.now a.out_east.now a.out_north.now passed c.too_short.ensures (cc))
