use Rattle.std.proofs.Common.{◌≡◌, sym, ap, ◌∙◌, pos, arith}
use Rattle.rules.specs.Streams.{stream, beyond}
use Rattle.samples.specs.Scans.{passed_more, passed_here, passed_all}
use Rattle.samples.proofs.corners.first_beyond.Goals as goal

pub returns-then-beyond : goal.returns-then-beyond
returns-then-beyond g c =
    let xs = g.C.Corners.corners c.args.ring.now in
    let found = ap beyond (sym c.corner.ensures) ∙ sym c.if-beyond.ensures in
    passed_here beyond (stream (pos 0) (pos 0)) xs c.loop-i.i (omega arith) found c.loop-i.invariant

pub loop-i-preserved : goal.loop-i-preserved
loop-i-preserved g c =
    let xs = g.C.Corners.corners c.args.ring.now in
    let found = ap beyond (sym c.corner.ensures) ∙ sym c.if-beyond.ensures in
    passed_more beyond (stream (pos 0) (pos 0)) xs c.loop-i.i (omega arith) found c.loop-i.invariant

pub returns : goal.returns
returns g c =
    let end : c.count-n.result ≡ c.loop-i.i = omega arith in
    end ∙ passed_all beyond (omega arith) c.loop-i.invariant
