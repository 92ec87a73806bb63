use Rattle.std.specs.Int.{w64}
use Rattle.whole.specs.Fits.{step_fits, word-is}
use Rattle.rules.specs.Round.{height}
use Rattle.round.proofs.RoundWords.{high, height_leaves}
use Rattle.round.proofs.scaled.Scaled.height.Goals as goal

pub overflow_sub-result : goal.overflow_sub-result
overflow_sub-result c = step_fits w64 (height_leaves c.args.self c.requires) high tt

pub returns : goal.returns
unfolding height
returns c = word-is w64 (height_leaves c.args.self c.requires) high tt
