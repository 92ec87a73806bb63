use Rattle.text.specs.PrintedCorners.{Lines}
use Rattle.text.proofs.printing.put_corners.Given as goal

abbrev pub invariant-loop-e : goal.invariant-loop-e
invariant-loop-e l = Lines l.east l.north l.from l.e-iterator.a.rest.now l.e-iterator.b.rest.now l.at l.initial.out l.out
