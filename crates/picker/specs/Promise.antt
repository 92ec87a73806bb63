-- The rank picker's promise: its answer and the scratch that it leaves, as the rules have them.
-- Assumes nothing.
use Rattle.std.specs.Prelude.{◌≡◌, List, ℕ, ℤ, Result}
use Rattle.rules.specs.Refusals.{scratch_after}
use Rattle.rules.specs.Entries.{pick_answer}
use Rattle.samples.specs.Answers.{answer_of}
use Rattle.samples.specs.declared.refusals.Refusal.{Refusal}

-- of the numbers, the rank and the scratch that are given: what is said, and the scratch that is left
pub record PickPromise (xs : List ℤ) (r : ℕ) (given : List ℕ) (said : Result ℤ Refusal) (left : List ℕ) : Type 0 where
  pub answer : answer_of said ≡ pick_answer xs r given
  pub scratch : left ≡ scratch_after (pick_answer xs r given) given
