-- Of the keys passed those on the side lie at the front.
use Rattle.picker.specs.Picking.{side}
use Rattle.picker.proofs.Passes.{Keeping}
use Rattle.picker.proofs.scan.keep.Given as goal

abbrev pub invariant-loop-i : goal.invariant-loop-i
invariant-loop-i l = Keeping (side l.above l.p) l.initial.keys l.keys l.i l.k
