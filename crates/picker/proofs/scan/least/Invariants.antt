-- Of the keys passed the least is held, and the others lie at the front.
use Rattle.picker.proofs.Passes.{Lifting}
use Rattle.picker.proofs.scan.least.Given as goal

abbrev pub invariant-loop-i : goal.invariant-loop-i
invariant-loop-i l = Lifting l.initial.keys l.keys l.i l.p
