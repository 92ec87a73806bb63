use Rattle.std.specs.Prelude.{◌≡◌, Ok, Err}
use Rattle.std.proofs.Common.{ap, ◌∙◌, arith, rules}
use Rattle.rules.specs.Door.{part}
use Rattle.samples.specs.HeldStream.{stream_of}
use Rattle.door.specs.declared.Reading.{Reading}
use Rattle.door.specs.DoorAnswers.{reading_at}
use Rattle.door.proofs.Answers.{right_at_end, right_if_bad, right_if_taken}
use Rattle.door.proofs.first_bad.Goals as goal

pub returns-in_err-taken : goal.returns-in_err-taken
returns-in_err-taken c =
    let i = c.loop-place.place in
    let r = c.in_err-taken.field-0.0 in
    let at = λ (x : Reading). reading_at (part x.east) (part x.north) i in
    let given : c.from_residual.result ≡ Err r = search rules in
    rw given
    (c.loop-place.invariant (Err r)
    (right_if_bad c.args.es.now c.args.ns.now i (omega arith) (omega arith) (Unit {0}) r (c.in_err-taken.ensures ∙ ap at c.reading_at.ensures)))

pub loop-place-preserved : goal.loop-place-preserved
loop-place-preserved c =
    let i = c.loop-place.place in
    let at = λ (x : Reading). reading_at (part x.east) (part x.north) i in
    λ r rest.
    c.loop-place.invariant r
    (right_if_taken c.args.es.now c.args.ns.now i (omega arith) (omega arith) (stream_of c.in_ok-taken.field-0)
    (c.in_ok-taken.ensures ∙ ap at c.reading_at.ensures) r rest)

pub returns : goal.returns
returns c = c.loop-place.invariant (Ok (tt {0})) (right_at_end c.args.es.now c.args.ns.now c.loop-place.place (tt {0}) (omega arith) (omega arith))
