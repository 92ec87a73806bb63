use Rattle.sum.specs.Stretches.{last_is}
use Rattle.sum.specs.Corners.{both_of}
use Rattle.sum.proofs.follow.Together.last_corner.Goals as goal

pub returns : goal.returns
returns c = last_is (both_of c.args.self) c.sum_at.ensures
