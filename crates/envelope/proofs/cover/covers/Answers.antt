use Rattle.std.proofs.Common.{sym, ap, ap₂, ◌∙◌, arith, [], ◌∷◌}
use Rattle.rules.specs.Streams.{Stream, streams, same}
use Rattle.rules.specs.Use.{covers}
use Rattle.samples.specs.HeldStream.{stream_of}
use Rattle.samples.specs.Samples.{streams-length, read_near}
use Rattle.envelope.specs.RoundTheRing.{none_cover, one_cover, two_cover, more_cover}
use Rattle.envelope.proofs.cover.covers.Goals as goal

pub returns-then-n-eq0 : goal.returns-then-n-eq0
returns-then-n-eq0 c =
    let xs = streams c.args.east.now c.args.north.now in
    let count = streams-length c.args.east.now c.args.north.now c.requires.0.even in
    sym (none_cover xs (stream_of c.args.s) (omega (arith, count)))

pub returns-then-n-eq1 : goal.returns-then-n-eq1
returns-then-n-eq1 c =
    let xs = streams c.args.east.now c.args.north.now in
    let count = streams-length c.args.east.now c.args.north.now c.requires.0.even in
    c.same.ensures ∙
    ap (λ (p : Stream). same p (stream_of c.args.s)) c.at.ensures ∙
    sym (one_cover xs (stream_of c.args.s) (omega (arith, count)))

pub on_segment-requires : goal.on_segment-requires
on_segment-requires c =
    let p = c.requires in
    (read_near p.0 0 c.at-then-n-eq2.ensures, read_near p.0 1 c.at-then-n-eq2-2.ensures, p.1)

pub returns-then-n-eq2 : goal.returns-then-n-eq2
returns-then-n-eq2 c =
    let xs = streams c.args.east.now c.args.north.now in
    let count = streams-length c.args.east.now c.args.north.now c.requires.0.even in
    c.on_segment.ensures ∙
    ap₂ (λ (p q : Stream). covers (p ∷ q ∷ []) (stream_of c.args.s)) c.at-then-n-eq2.ensures c.at-then-n-eq2-2.ensures ∙
    sym (two_cover xs (stream_of c.args.s) (omega (arith, count)))

pub returns : goal.returns
returns c =
    let xs = streams c.args.east.now c.args.north.now in
    let count = streams-length c.args.east.now c.args.north.now c.requires.0.even in
    c.beside.ensures ∙ sym (more_cover xs (stream_of c.args.s) (omega (arith, count)))
