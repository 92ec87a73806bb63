use Rattle.std.specs.Prelude.{List}
use Rattle.rules.specs.Streams.{Stream}
use Rattle.text.specs.TextLines.{Passed}
use Rattle.text.proofs.reading.decide.Given as goal

abbrev pub invariant-loop-count : goal.invariant-loop-count
invariant-loop-count l = (xs : List Stream) × Passed l.text l.rest l.count xs
