use Rattle.rules.specs.Round.{slope_le}
use Rattle.laws_ranks.specs.Counts.{not_by}
use Rattle.laws_ranks.specs.Ranks.{under}
use Rattle.slopes.specs.Fractions.{as_slope}
use Rattle.slopes.proofs.scan.not_below.Given as goal

abbrev pub ghost-keep : goal.ghost-keep
ghost-keep a = not_by (under slope_le (as_slope a.passes.0))
