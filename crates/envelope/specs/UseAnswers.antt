-- What the answers about a ring say in the rules' words.
-- Assumes nothing.
use Rattle.std.specs.Prelude.{◌≡◌, List, ℕ, ℤ, Result}
use Rattle.rules.specs.Refusals.{output_after}
use Rattle.rules.specs.Entries.{Strongest, easts, norths, counted, turn_answer}
use Rattle.envelope.specs.declared.strongest.Greatest.{Greatest}
use Rattle.samples.specs.Answers.{answer_of}
use Rattle.samples.specs.declared.refusals.Refusal.{Refusal}

abbrev pub strongest_as : Greatest → Strongest
strongest_as g = record { set = g.set; place = g.place }

-- the promise of turning about: the answer, and both outputs, before and after
pub record TurnPromise (es ns oe on : List ℤ) (r : Result ℕ Refusal) (oe' on' : List ℤ) : Type 0 where
  pub answer : answer_of r ≡ counted (turn_answer es ns oe on)
  pub east_after : oe' ≡ output_after easts (turn_answer es ns oe on) oe
  pub north_after : on' ≡ output_after norths (turn_answer es ns oe on) on
