use Rattle.samples.specs.Placed.{then}
use Rattle.text.proofs.printing.put_headed.Goals as goal

pub returns : goal.returns
returns c = then c.put-at.ensures c.put_natural.ensures
