use Rattle.sum.specs.Reaches.{strongest-at}
use Rattle.sum.proofs.reach.Ring.strongest.Goals as goal

pub returns : goal.returns
returns c = strongest-at c.args.self.one c.strongest_place.ensures c.at.ensures
