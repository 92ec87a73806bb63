use Rattle.sum.specs.Reaches.{strongest-added}
use Rattle.sum.proofs.reach.outermost.Goals as goal

pub returns : goal.returns
returns c =
    strongest-added c.args.course.east c.args.course.north c.strongest.ensures c.strongest-2.ensures c.added.ensures
