use Rattle.std.proofs.Common.{arith}
use Rattle.text.specs.Naturals.{printing_all, printing_more, printing_end, printing_above, left-all, left_some}
use Rattle.text.proofs.printing.put_natural.Goals as goal

pub overflow_sub-i : goal.overflow_sub-i
overflow_sub-i c = omega (arith, c.width.ensures, left_some (left-all c.args.n c.ranges.n.fits))

pub loop-left-init : goal.loop-left-init
loop-left-init c = rw c.width.ensures (printing_all c.args.n c.args.at c.args.out.now c.ranges.n.fits)

pub overflow_sub-i-in-loop-left : goal.overflow_sub-i-in-loop-left
overflow_sub-i-in-loop-left c = omega (arith, printing_above c.requires c.loop-left.invariant (omega arith))

pub loop-left-preserved : goal.loop-left-preserved
loop-left-preserved c = printing_more c.requires c.loop-left.invariant (omega arith)

pub returns : goal.returns
returns c = rw c.width.ensures (printing_end c.requires c.loop-left.invariant (omega arith))
