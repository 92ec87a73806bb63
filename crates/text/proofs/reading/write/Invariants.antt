use Rattle.text.specs.Writing.{Writing}
use Rattle.text.proofs.reading.write.Given as goal

abbrev pub invariant-loop-i : goal.invariant-loop-i
invariant-loop-i l = Writing l.text l.initial.east l.initial.north l.rest l.i l.east l.north
