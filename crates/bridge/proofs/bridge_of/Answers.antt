-- Every list that a round keeps carries the bridge, and is shorter.
use Rattle.std.specs.Prelude.{ℤ, take}
use Rattle.std.proofs.Common.{subst, arith}
use mir.Facts.{to_z-of_z}
use Rattle.rules.specs.Bridge.{ends}
use Rattle.laws_rounds.specs.Rounds.{Found}
use Rattle.samples.specs.Sides.{seen}
use Rattle.bridge.proofs.Bridging.{at_least_two, bridging_found, bridging_more, bridging_less}
use Rattle.bridge.proofs.bridge_of.Goals as goal

pub round_of-requires : goal.round_of-requires
round_of-requires c =
    let g = c.loop-left.invariant in
    let room = c.requires.room in
    let long = g.long in
    let fewer = g.fewer in
    record {
      listed = g.listed;
      two = at_least_two (seen c.args.s) _ _ c.args.w.now c.args.count room g;
      room = omega arith;
    }

pub returns-in-Found : goal.returns-in-Found
returns-in-Found c =
    let places = seen c.args.s in
    subst (λ (z : ℤ). Found places z (take c.args.count c.args.w.now) (ends c.in-Found.left c.in-Found.right)) (to_z-of_z c.ranges.a)
    (bridging_found places _ _ c.args.w.now c.args.count c.requires.room c.loop-left.invariant c.in-Found.ensures)

pub loop-left-smaller : goal.loop-left-smaller
loop-left-smaller c =
    bridging_less (seen c.args.s) _ _ c.args.w.now c.args.count c.requires.room c.loop-left.invariant c.round_of.auto.w
    c.in-Kept.ensures

pub loop-left-preserved : goal.loop-left-preserved
loop-left-preserved c =
    bridging_more (seen c.args.s) _ _ c.args.w.now c.args.count c.requires.room c.loop-left.invariant c.round_of.auto.w
    c.in-Kept.ensures
