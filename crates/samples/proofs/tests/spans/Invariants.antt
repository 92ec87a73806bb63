use Rattle.std.specs.Int.Signed.{le_z, lt_z}
use Rattle.samples.specs.Scans.{Seen}
use Rattle.samples.proofs.tests.spans.Given as goal

abbrev pub invariant-loop-x : goal.invariant-loop-x
invariant-loop-x l = Seen (λ z. le_z z l.a) l.e l.x-index l.west × Seen (λ z. lt_z l.a z) l.e l.x-index l.beyond
