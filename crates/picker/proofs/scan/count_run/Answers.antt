-- `picker::scan::count_run` meets its contract: the loop keeps the counts of the keys passed.
-- Assumes nothing.
use Rattle.std.proofs.Common.{arith, length-drop}
use Rattle.picker.proofs.Passes.{below_within, above-within, counting_next, counting_all}
use Rattle.picker.proofs.scan.count_run.Goals as goal

pub overflow_add-below : goal.overflow_add-below
overflow_add-below c = omega (arith, below_within (counting_next c.args.keys.now (omega arith) c.loop-x.invariant))

pub overflow_add-above : goal.overflow_add-above
overflow_add-above c = omega (arith, above-within (counting_next c.args.keys.now (omega arith) c.loop-x.invariant))

pub loop-x-preserved : goal.loop-x-preserved
loop-x-preserved c = counting_next c.args.keys.now (omega arith) c.loop-x.invariant

pub returns : goal.returns
returns c = counting_all c.loop-x.invariant (omega (arith, length-drop c.loop-x.x-index c.args.keys.now))
