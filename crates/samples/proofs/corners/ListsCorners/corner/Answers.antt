use Rattle.std.proofs.Common.{arith}
use Rattle.samples.specs.Samples.{streams-length}
use Rattle.samples.proofs.corners.ListsCorners.corner.Goals as goal

pub at-requires : goal.at-requires
at-requires c =
    let ring = c.args.self.now in
    (ring.even, omega (arith, streams-length ring.east.now ring.north.now ring.even))
