-- The tests of samples, then the test for 6.
use Rattle.std.specs.Prelude.{◌≡◌, Bool, cond, not, List, [], ◌∷◌, ℕ, ℤ, length, nat_eq}
use Rattle.std.proofs.Common.{sym, ap, ap₂, ◌∙◌, eqb-true}
use Rattle.std.proofs.lemmas.Bool.{not-false}
use mir.Facts.{to_z-of_z}
use Rattle.rules.specs.Streams.{streams}
use Rattle.rules.specs.Bridge.{spans}
use Rattle.rules.specs.Refusals.{Answer, refused, done, test, unless}
use Rattle.samples.specs.Answers.{number_of}
use Rattle.samples.specs.Positions.{easts_span}
use Rattle.samples.specs.Samples.{samples_span}
use Rattle.samples.specs.InOrder.{None_hold, room_tests, answer_by, passed_by, passed_tests}
use Rattle.bridge.specs.Promise.{bridge_tests}
use Rattle.bridge.proofs.tested.Goals as goal

-- where the tests of samples are passed, the easts decide
decided : (es ns : List ℤ) (a : ℤ) (room : ℕ) {y : List ℤ × List ℤ} → done y ≡ unless (room_tests es ns room) (es, ns) → {b : Bool} → easts_span a es ≡ b
    → unless (bridge_tests es ns a room) (es, ns) ≡ cond (not b) (refused 6 0) (done y)
decided es ns a room {y} e s =
    answer_by (room_tests es ns room) (test 6 0 (not (spans a (streams es ns))) ∷ []) (es, ns) (es, ns) (sym e)
    ∙ ap₂ (λ (b : Bool) (x : Answer (List ℤ × List ℤ)). cond (not b) (refused 6 0) x) (samples_span a es ns even ∙ s) (sym (e ∙ passed_by (room_tests es ns room) n))
  where
    n : None_hold (room_tests es ns room)
    n = passed_tests (es, ns) (room_tests es ns room) (sym e)

    even : length es ≡ length ns
    even = eqb-true (length es) (length ns) (not-false (nat_eq (length es) (length ns)) n.0)

pub returns-then-not-spans : goal.returns-then-not-spans
returns-then-not-spans c =
    let a = c.args in
    ap (λ r. refused (number_of r.reason) r.place) c.into.ensures
    ∙ sym (decided a.east.now a.north.now a.a a.room c.in_ok-samples.ensures (rw (to_z-of_z c.ranges.a) at (sym c.spans.ensures ∙ c.if-not-spans.true)))

pub returns : goal.returns
returns c =
    let a = c.args in
    sym (decided a.east.now a.north.now a.a a.room c.in_ok-samples.ensures (rw (to_z-of_z c.ranges.a) at (sym c.spans.ensures ∙ c.if-not-spans.false)))
