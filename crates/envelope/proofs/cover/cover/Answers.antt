use Rattle.std.proofs.Common.{◌≡◌, sym, ap, ap₂, ◌∙◌, [], List, ℤ, to_z-of_z, rules, Err}
use Rattle.rules.specs.Streams.{Stream, stream, streams}
use Rattle.rules.specs.Use.{covers}
use Rattle.rules.specs.Refusals.{Answer, done, unless}
use Rattle.rules.specs.Entries.{cover_answer}
use Rattle.samples.specs.InOrder.{then_answer, answer_by}
use Rattle.samples.specs.StreamWords.{read}
use Rattle.envelope.specs.Tests.{stream_tests, stream_passed}
use Rattle.envelope.proofs.cover.cover.Goals as goal

-- the answer by what the tests said of the stream as it was read, which is as it was given
after : (es ns : List ℤ) {x y : ℤ} → read x ≡ x → read y ≡ y → {t : Answer (Unit {0})} →
    t ≡ unless (stream_tests es ns (stream (read x) (read y))) tt → cover_answer es ns x y ≡ then_answer t (done (covers (streams es ns) (stream x y)))
unfolding cover_answer
after es ns {x} {y} a b h =
    answer_by (stream_tests es ns (stream x y)) [] (covers (streams es ns) (stream x y)) tt
    (sym (h ∙ ap (λ (s : Stream). unless (stream_tests es ns s) tt) (ap₂ stream a b)))

pub returns-in_err-of_ring_and_stream : goal.returns-in_err-of_ring_and_stream
returns-in_err-of_ring_and_stream c =
    let e : c.from_residual.result ≡ Err c.in_err-of_ring_and_stream.field-0.0 = search rules in
    rw e (sym (after c.args.east.now c.args.north.now (to_z-of_z c.ranges.x) (to_z-of_z c.ranges.y) c.in_err-of_ring_and_stream.ensures))

pub covers-requires : goal.covers-requires
covers-requires c =
    stream_passed c.args.east.now c.args.north.now tt (stream (read c.args.x) (read c.args.y)) (sym c.in_ok-of_ring_and_stream.ensures)

pub returns : goal.returns
returns c =
    let es = c.args.east.now in
    let ns = c.args.north.now in
    let x = to_z-of_z c.ranges.x in
    let y = to_z-of_z c.ranges.y in
    ap done (c.covers.ensures ∙ ap (covers (streams es ns)) (ap₂ stream x y)) ∙ sym (after es ns x y c.in_ok-of_ring_and_stream.ensures)
