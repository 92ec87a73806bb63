use Rattle.std.proofs.Common.{subst, arith}
use Rattle.rules.specs.Streams.{Stream}
use Rattle.rules.specs.Record.{corner_bytes}
use Rattle.samples.specs.Placed.{Put}
use Rattle.envelope.specs.Begins.{turned_if, begins-length}
use Rattle.writer.specs.Putting.{corners_none, corners-all, corner_room, corners_more}
use Rattle.writer.proofs.put_corners.Goals as goal

pub loop-i-init : goal.loop-i-init
loop-i-init g c =
    let a = c.args in
    corners_none (turned_if a.about (g.C.Corners.corners a.ring.now)) a.from a.out.now (omega (arith, c.requires.room))

pub put_corner-place-requires : goal.put_corner-place-requires
put_corner-place-requires g c = corner_room c.loop-i.invariant (omega (arith, begins-length c.requires.begins)) c.requires.room

pub loop-i-preserved : goal.loop-i-preserved
loop-i-preserved g c =
    let l = c.loop-i in
    let put = c.put_corner-place in
    corners_more {r = turned_if c.args.about (g.C.Corners.corners c.args.ring.now)} l.invariant (omega (arith, begins-length c.requires.begins))
    (subst (λ (s : Stream). Put (corner_bytes s) l.place l.out put.new.out put.result) c.turned_corner-c.ensures put.ensures)

pub returns : goal.returns
returns g c = corners-all c.loop-i.invariant (omega (arith, begins-length c.requires.begins))
