-- `picker::scan::least` meets its contract: of the keys passed the loop keeps the least, and the others at the front.
-- Assumes nothing.
use Rattle.std.proofs.Common.{arith}
use Rattle.picker.proofs.Passes.{lifting_none, lifting_more}
use Rattle.picker.proofs.scan.least.Goals as goal

pub loop-i-init : goal.loop-i-init
loop-i-init c = lifting_none c.args.keys.now c.requires

pub loop-i-preserved : goal.loop-i-preserved
loop-i-preserved c = rw (c.max.ensures, c.min-p.ensures) (lifting_more (omega arith) c.loop-i.invariant)
