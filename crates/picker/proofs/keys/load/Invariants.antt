-- The keys of the numbers so far lie at the front.
use Rattle.picker.proofs.Loads.{Loading}
use Rattle.picker.proofs.keys.load.Given as goal

abbrev pub invariant-loop-i : goal.invariant-loop-i
invariant-loop-i l = Loading l.xs l.w l.i
