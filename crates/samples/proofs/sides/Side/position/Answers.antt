use Rattle.std.proofs.Common.{ap, ◌∙◌}
use Rattle.samples.specs.Positions.{facing}
use Rattle.samples.specs.Samples.{sample-at, read_near}
use Rattle.samples.proofs.sides.Side.position.Goals as goal

pub faced-requires : goal.faced-requires
faced-requires c = read_near c.args.self.samples.sampled c.args.x c.at.ensures

pub returns : goal.returns
returns c =
    let s = c.args.self.samples in
    c.faced.ensures ∙ ap (facing c.args.self.lower) (c.at.ensures ∙ sample-at s.east.now s.north.now s.sampled.even c.args.x)
