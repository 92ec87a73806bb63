use Rattle.std.proofs.Common.{sym, ◌∙◌}
use Rattle.rules.specs.Streams.{streams}
use Rattle.laws_halves.specs.Stretch.{stretch-at}
use Rattle.sum.proofs.follow.Followed.at.Goals as goal

pub returns : goal.returns
returns c =
    let s = c.args.self in
    c.corner.ensures ∙ sym (stretch-at (streams s.ring.east.now s.ring.north.now) s.over.from s.over.sides c.args.i c.requires)
