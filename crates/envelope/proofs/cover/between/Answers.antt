use Rattle.std.proofs.Common.{rules}
use Rattle.rules.specs.Use.{between}
use Rattle.envelope.proofs.cover.between.Goals as goal

pub returns : goal.returns
unfolding between
returns c = search rules
