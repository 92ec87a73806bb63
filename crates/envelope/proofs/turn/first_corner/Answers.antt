use Rattle.envelope.specs.Begins.{begins-first}
use Rattle.envelope.proofs.turn.first_corner.Goals as goal

pub returns : goal.returns
returns g c = rw c.if-about.false (begins-first (g.C.Corners.corners c.args.ring.now))
