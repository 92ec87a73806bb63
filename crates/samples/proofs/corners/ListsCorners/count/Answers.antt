use Rattle.std.proofs.Common.{sym}
use Rattle.samples.specs.Samples.{streams-length}
use Rattle.samples.proofs.corners.ListsCorners.count.Goals as goal

pub returns : goal.returns
returns c = let ring = c.args.self.now in sym (streams-length ring.east.now ring.north.now ring.even)
