use Rattle.std.specs.Prelude.{◌≡◌, ◌^◌, ◌<◌, drop}
use Rattle.text.specs.Digits.{digits_after}
use Rattle.text.proofs.reading.read_digits.Given as goal

abbrev pub invariant-loop-b : goal.invariant-loop-b
invariant-loop-b l = (l.n < 10 ^ l.b-index) × (digits_after 0 l.s ≡ digits_after l.n (drop l.b-index l.s))
