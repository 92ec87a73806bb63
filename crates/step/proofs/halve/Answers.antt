use Rattle.step.proofs.Halving.{left_asks, halved}
use Rattle.step.proofs.halve.Goals as goal

pub beyond-left-requires : goal.beyond-left-requires
beyond-left-requires c = left_asks c.requires c.beyond-right.auto.w c.beyond-right.ensures

pub returns : goal.returns
returns c =
    halved c.requires c.beyond-right.auto.w c.beyond-right.ensures c.beyond-left.auto.w c.beyond-left.ensures c.copy_within.ensures.after
