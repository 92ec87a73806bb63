use Rattle.rules.specs.Round.{slope_le}
use Rattle.laws_ranks.specs.Counts.{not_by}
use Rattle.laws_ranks.specs.Ranks.{over}
use Rattle.slopes.specs.Fractions.{as_slope}
use Rattle.slopes.proofs.scan.not_above.Given as goal

abbrev pub ghost-keep : goal.ghost-keep
ghost-keep a = not_by (over slope_le (as_slope a.passes.0))
