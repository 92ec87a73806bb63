use Rattle.std.proofs.Common.{arith}
use Rattle.slopes.specs.Gathering.{gathering_more}
use Rattle.slopes.proofs.gather.middles.Goals as goal

pub loop-i-preserved : goal.loop-i-preserved
loop-i-preserved c =
    let long = c.loop-i.invariant.long in
    let room = c.requires.0.room in
    rw c.copy.ensures (gathering_more c.loop-i.invariant (omega arith) (omega arith))
