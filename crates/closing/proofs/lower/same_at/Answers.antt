use Rattle.std.proofs.Common.{ap₂, ◌∙◌}
use Rattle.rules.specs.Streams.{same}
use Rattle.closing.proofs.lower.same_at.Goals as goal

pub returns : goal.returns
returns c = c.same.ensures ∙ ap₂ same c.listed.ensures c.listed-2.ensures
