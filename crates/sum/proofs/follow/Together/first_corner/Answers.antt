use Rattle.sum.specs.Stretches.{first-is}
use Rattle.sum.specs.Corners.{both_of}
use Rattle.sum.proofs.follow.Together.first_corner.Goals as goal

pub returns : goal.returns
returns c = first-is (both_of c.args.self) c.sum_at.ensures
