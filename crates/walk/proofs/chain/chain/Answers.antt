-- A step of the walk, and its end.
use Rattle.std.proofs.Common.{arith}
use Rattle.walk.specs.Stacks.{walking_next, walking_on, walking_end}
use Rattle.walk.proofs.chain.chain.Goals as goal

pub taken-top-requires : goal.taken-top-requires
taken-top-requires c =
    let p = c.requires in
    let inv = c.loop-k.invariant in
    let d = c.draw-x.ensures in
    (d.below, inv.1.stand, omega (arith, inv.0, inv.1.few, p.1, c.loop-k-test.true), walking_next inv.1 d)

pub loop-k-preserved : goal.loop-k-preserved
loop-k-preserved c =
    let inv = c.loop-k.invariant in
    (omega (arith, inv.0, c.draw-x.ensures.one), walking_on inv.1 c.draw-x.ensures c.requires.0 c.taken-top.ensures)

pub returns : goal.returns
returns c = walking_end c.loop-k.invariant.1 c.requires.0 (omega (arith, c.loop-k.invariant.0, c.loop-k-test.false))
