use Rattle.round.proofs.RoundWords.{scaled-is, times_near}
use Rattle.round.proofs.scaled.Scaled.of.Goals as goal

pub invariant_of-result : goal.invariant_of-result
invariant_of-result c = record { rise_near = times_near c.requires.rise_near; run_near = times_near c.requires.run_near }

pub returns : goal.returns
returns c = scaled-is c.requires
