-- The promise of chains: its answer, and what it leaves of all that is lent, as the rules have them.
-- Assumes nothing.
use Rattle.std.specs.Prelude.{◌≡◌, Bool, ◌||◌, List, [], ◌∷◌, ℕ, ℤ, ltb, length, Result}
use Rattle.rules.specs.Refusals.{Answer, refused, done, unless, output_short, output_after, scratch_after}
use Rattle.rules.specs.Entries.{Chains, chains_answer}
use Rattle.samples.specs.Answers.{answer_of}
use Rattle.samples.specs.declared.refusals.Refusal.{Refusal}
pub use Rattle.chains.specs.declared.Counts.{Counts}

-- the rules' answer, whose lists lie in the outputs
abbrev pub counted : Answer Chains → Answer Counts
counted (refused number place) = refused number place
counted (done c) = done (record { upper = length c.upper; lower = length c.lower })

-- an answer of the rules is kept by what is said and by what is left of the outputs and of the scratch
pub record Kept (answer : Answer Chains) (upper lower scratch : List ℕ) (r : Result Counts Refusal) (upper_left lower_left scratch_left : List ℕ) : Type 0 where
  pub said : answer_of r ≡ counted answer
  pub upper_is : upper_left ≡ output_after (λ c. c.upper) answer upper
  pub lower-is : lower_left ≡ output_after (λ c. c.lower) answer lower
  pub scratch-is : scratch_left ≡ scratch_after answer scratch

-- for the samples, the outputs and the scratch that are given
abbrev pub ChainsPromise : List ℤ → List ℤ → List ℕ → List ℕ → List ℕ → Result Counts Refusal → List ℕ → List ℕ → List ℕ → Type 0
ChainsPromise es ns upper lower scratch r upper_left lower_left scratch_left =
    Kept (chains_answer es ns upper lower scratch) upper lower scratch r upper_left lower_left scratch_left

-- ---- the last test: the outputs are long enough for both chains

-- both chains, by their numbers
abbrev pub two : List ℕ → List ℕ → Chains
two u l = record { upper = u; lower = l }

-- one of the two is too long for its output
abbrev pub short : List ℕ → List ℕ → List ℕ → List ℕ → Bool
short u l upper lower = ltb (length upper) (length u) || ltb (length lower) (length l)

abbrev pub fits : List ℕ → List ℕ → List ℕ → List ℕ → Answer Chains
fits u l upper lower = unless (output_short (short u l upper lower) ∷ []) (two u l)

abbrev pub ChainsWritten : List ℕ → List ℕ → List ℕ → List ℕ → List ℕ → Result Counts Refusal → List ℕ → List ℕ → List ℕ → Type 0
ChainsWritten u l upper lower scratch r upper_left lower_left scratch_left =
    Kept (fits u l upper lower) upper lower scratch r upper_left lower_left scratch_left
