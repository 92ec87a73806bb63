use Rattle.std.proofs.Common.{◌≡◌}
use Rattle.rules.specs.Streams.{streams}
use Rattle.samples.specs.HeldStream.{stream_of}
use Rattle.envelope.specs.RoundTheRing.{beside_from}
use Rattle.envelope.proofs.cover.beside.Given as goal

-- the test is what is left of it from place i on
abbrev pub invariant-loop-i : goal.invariant-loop-i
invariant-loop-i l =
    beside_from (streams l.east l.north) (stream_of l.s) 1 ≡ beside_from (streams l.east l.north) (stream_of l.s) l.i
