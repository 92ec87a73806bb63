use Rattle.std.proofs.Common.{◌≡◌}
use Rattle.envelope.specs.RoundTheRing.{round_from}
use Rattle.envelope.proofs.test.goes_round.Given as goal

-- the test of neighbours is what is left of it from place i on
abbrev pub invariant-loop-i : goal.invariant-loop-i
invariant-loop-i g l = let xs = g.C.Corners.corners l.ring in round_from xs 2 ≡ round_from xs l.i
