-- Easts rise up to place k.
use Rattle.std.specs.Prelude.{ℕ, suc, ◌<◌, ◌<ℤ◌}
use Rattle.samples.specs.Positions.{east_of}
use Rattle.halves.proofs.crest.Given as goal

abbrev pub invariant-loop-k : goal.invariant-loop-k
invariant-loop-k l = (i : ℕ) → i < l.k → east_of l.east i <ℤ east_of l.east (suc i)
