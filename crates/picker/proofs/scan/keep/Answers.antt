-- `picker::scan::keep` meets its contract: of the keys passed the loop keeps those on the side at the front.
-- Assumes nothing.
use Rattle.std.proofs.Common.{arith}
use Rattle.picker.proofs.Passes.{keeping_none, keeping_more, kept_few}
use Rattle.picker.proofs.scan.keep.Goals as goal

pub loop-i-init : goal.loop-i-init
loop-i-init c = keeping_none

pub offset_bounds-keys-k : goal.offset_bounds-keys-k
offset_bounds-keys-k c = omega (arith, kept_few c.loop-i.invariant)

pub bounds-keys-k : goal.bounds-keys-k
bounds-keys-k c = omega (arith, kept_few c.loop-i.invariant)

pub overflow_add-k : goal.overflow_add-k
overflow_add-k c = omega (arith, kept_few (keeping_more c.loop-i.invariant (omega arith) c.beside.ensures))

pub loop-i-preserved : goal.loop-i-preserved
loop-i-preserved c = keeping_more c.loop-i.invariant (omega arith) c.beside.ensures
