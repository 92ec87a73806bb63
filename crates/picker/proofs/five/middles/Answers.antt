-- `picker::five::middles` meets its contract: the loop keeps the middles of the groups so far.
-- Assumes nothing.
use Rattle.std.proofs.Common.{refl, arith, length}
use Rattle.laws_ranks.specs.Middles.{fives}
use Rattle.picker.proofs.Fives.{grouping_more, grouping_all}
use Rattle.picker.proofs.five.middles.Goals as goal

pub loop-i-init : goal.loop-i-init
unfolding fives
loop-i-init c = refl

pub loop-i-preserved : goal.loop-i-preserved
loop-i-preserved c =
    grouping_more c.args.keys.now c.loop-i.out (length c.args.out.now) c.loop-i.i c.middle_at.result (omega arith) c.middle_at.ensures c.loop-i.invariant

pub returns : goal.returns
returns c = grouping_all c.args.keys.now c.loop-i.out (length c.args.out.now) c.loop-i.i c.requires (omega arith) (omega arith) c.loop-i.invariant
