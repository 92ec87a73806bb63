use Rattle.rules.specs.Streams.{beyond}
use Rattle.samples.specs.Scans.{Passed}
use Rattle.samples.proofs.corners.first_beyond.Given as goal

-- none of the corners before place i is beyond
abbrev pub invariant-loop-i : goal.invariant-loop-i
invariant-loop-i g l = Passed beyond (g.C.Corners.corners l.ring) l.i
