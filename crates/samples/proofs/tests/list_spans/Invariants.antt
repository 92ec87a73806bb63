use Rattle.std.proofs.Common.{map}
use Rattle.std.specs.Int.Signed.{le_z, lt_z}
use Rattle.samples.specs.Positions.{east_of}
use Rattle.samples.specs.Scans.{Seen}
use Rattle.samples.proofs.tests.list_spans.Given as goal

abbrev pub invariant-loop-number : goal.invariant-loop-number
invariant-loop-number l =
    Seen (λ z. le_z z l.a) (map (east_of l.e) l.list) l.number-index l.west × Seen (λ z. lt_z l.a z) (map (east_of l.e) l.list) l.number-index l.beyond
