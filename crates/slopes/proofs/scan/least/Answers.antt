use Rattle.std.proofs.Common.{ap₂, ◌∙◌, arith}
use Rattle.rules.specs.Round.{slope_le}
use Rattle.laws_ranks.specs.Ranks.{under}
use Rattle.slopes.specs.ShortLists.{lifting_none, lifting_more}
use Rattle.slopes.proofs.scan.least.Goals as goal

pub loop-i-init : goal.loop-i-init
loop-i-init c = lifting_none c.requires.0 c.requires.1 c.at-p.ensures

pub loop-i-preserved : goal.loop-i-preserved
loop-i-preserved c =
    rw (c.store.ensures, c.select_unpredictable.ensures, c.select_unpredictable-p.ensures)
    (lifting_more c.requires.0 c.loop-i.invariant (omega arith) c.at-f.ensures c.below-under.result
    (c.below-under.ensures ∙ ap₂ (under slope_le) c.slope-in-loop-i.ensures.is c.slope.ensures.is))
