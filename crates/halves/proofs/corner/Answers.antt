-- The corner behind the last is the first again.
use Rattle.std.proofs.Common.{arith}
use Rattle.std.proofs.lemmas.Grind.{common_steps}
use Rattle.samples.specs.Samples.{streams-length}
use Rattle.halves.proofs.corner.Goals as goal

pub returns-then-i-east : goal.returns-then-i-east
returns-then-i-east c = let e = streams-length c.args.east.now c.args.north.now c.requires.0 in grind (arith, common_steps, e)

pub returns : goal.returns
returns c = let e = streams-length c.args.east.now c.args.north.now c.requires.0 in grind (arith, common_steps, e)
