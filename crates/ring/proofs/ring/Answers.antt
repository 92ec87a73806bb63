use Rattle.std.proofs.Common.{refl}
use Rattle.closing.specs.RingPromise.{outcome_as, outcome_from}
use Rattle.ring.specs.ChainsClosed.{samples-corners, sides-closed, sides-both}
use Rattle.ring.specs.Answers.{by_tests, refused_early}
use Rattle.ring.proofs.ring.Goals as goal

-- the samples as a ring, with no second one
pub invariant_of-rings : goal.invariant_of-rings
invariant_of-rings c = let a = c.args in record { corners = samples-corners a.east.now a.north.now a.scratch.now c.in-Ok.ensures.tests }

pub close-requires : goal.close-requires
close-requires c =
    let a = c.args in
    let made = c.in-Ok.ensures in
    sides-both a.east.now a.north.now made.both (samples-corners a.east.now a.north.now a.scratch.now made.tests).even

pub returns-in-Err : goal.returns-in-Err
returns-in-Err c =
    let a = c.args in refused_early a.east.now a.north.now a.out_east.now a.out_north.now a.scratch.now c.in-Err.ensures refl

-- both sides are made and closed
pub returns-in-Ok : goal.returns-in-Ok
returns-in-Ok c =
    let a = c.args in
    let made = c.in-Ok.ensures in
    outcome_as (by_tests a.east.now a.north.now a.out_east.now a.out_north.now a.scratch.now made.tests)
    (outcome_from (sides-closed a.east.now a.north.now made.both) c.sides_of.auto.scratch c.close.ensures)
