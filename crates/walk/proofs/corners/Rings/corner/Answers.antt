-- A place below the first ring's count is the first ring's, the others are the second ring's.
use Rattle.std.proofs.Common.{◌∙◌}
use Rattle.walk.specs.Places.{sample-first, sample-second}
use Rattle.walk.proofs.corners.Rings.corner.Goals as goal

pub returns-then-k-self : goal.returns-then-k-self
returns-then-k-self c =
    let a = c.args in
    c.at.ensures ∙ sample-first a.self.east.now a.self.north.now a.self.east2.now a.self.north2.now a.self.corners.even a.k c.if-k-self.true

pub returns : goal.returns
returns c =
    let a = c.args in
    c.at-2.ensures ∙ sample-second a.self.east.now a.self.north.now a.self.east2.now a.self.north2.now a.self.corners.even a.k c.if-k-self.false
