use Rattle.text.specs.Naturals.{Printing}
use Rattle.text.proofs.printing.put_natural.Given as goal

abbrev pub invariant-loop-left : goal.invariant-loop-left
invariant-loop-left l = Printing l.n l.at l.left l.i l.initial.out l.out

abbrev pub decreases-loop-left : goal.decreases-loop-left
decreases-loop-left l = l.left
