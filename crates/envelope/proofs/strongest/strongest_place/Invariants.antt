use Rattle.rules.specs.Streams.{streams}
use Rattle.envelope.specs.FirstBest.{First, stronger}
use Rattle.envelope.proofs.strongest.strongest_place.Given as goal

-- best is the first place of the strongest before place i
abbrev pub invariant-loop-i : goal.invariant-loop-i
invariant-loop-i l = First (stronger l.course.east l.course.north) (streams l.east l.north) l.i l.best
