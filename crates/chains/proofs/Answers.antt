-- The answer of chains: the tests of the samples refuse, or an output is too short, or both chains are written.
-- Assumes nothing.
use mathlib.Core.Path.{◌≡◌, refl, ◌∙◌, subst₂, subst⁻¹}
use mathlib.Core.List.{List, [], ◌∷◌}
use Prim.Native.Nat.{ℕ}
use lib.IntN.{ℤ}
use Rattle.std.specs.Prelude.{Result}
use lib.ListN.{length, take, drop}
use Rattle.rules.specs.Streams.{streams}
use Rattle.rules.specs.Chain.{upper_numbers, lower_numbers}
use Rattle.rules.specs.Refusals.{Answer, refused, output_short}
use Rattle.rules.specs.Entries.{Chains, sample_tests, chains_answer}
use Rattle.samples.specs.InOrder.{then_answer, answer_by, scratch_by_length}
use Rattle.samples.specs.Answers.{answer_of}
use Rattle.samples.specs.declared.refusals.Refusal.{Refusal}
use Rattle.chains.specs.BothSides.{tested, SidesRefused, SidesMade}
use Rattle.chains.specs.Promise.{Counts, Kept, ChainsPromise, two, short, fits, ChainsWritten}

-- an answer that is this one is kept by what keeps this one
pub kept_as : {a b : Answer Chains} {upper lower scratch upper_left lower_left scratch_left : List ℕ} {r : Result Counts Refusal} → a ≡ b
    → Kept b upper lower scratch r upper_left lower_left scratch_left
    → Kept a upper lower scratch r upper_left lower_left scratch_left
kept_as {upper} {lower} {scratch} {upper_left} {lower_left} {scratch_left} {r} e k =
    subst⁻¹ (λ (c : Answer Chains). Kept c upper lower scratch r upper_left lower_left scratch_left) e k

-- ---- the entry's answer, by what is said of both sides

module _ (es ns : List ℤ) (upper lower scratch : List ℕ) where
  -- the tests of the samples, then the outputs
  by_tests : {t : Answer (Unit {0})} → tested es ns scratch ≡ t
      → chains_answer es ns upper lower scratch ≡ then_answer t (fits (upper_numbers (streams es ns)) (lower_numbers (streams es ns)) upper lower)
  unfolding chains_answer
  by_tests e =
      let u = upper_numbers (streams es ns) in
      let l = lower_numbers (streams es ns) in
      answer_by (sample_tests es ns scratch) (output_short (short u l upper lower) ∷ []) (two u l) tt e

  pub refused_early : {number place : ℕ} {r : Result Counts Refusal} {left : List ℕ} → SidesRefused es ns scratch number place left
      → answer_of r ≡ refused number place → ChainsPromise es ns upper lower scratch r upper lower left
  refused_early s e = kept_as (by_tests s.tests) (record { said = e; upper_is = refl; lower-is = refl; scratch-is = s.scratch-is })

  pub answered : {c : Counts} {now : List ℕ} → SidesMade es ns scratch c now → length now ≡ length scratch
      → {r : Result Counts Refusal} {upper_left lower_left scratch_left : List ℕ}
      → ChainsWritten (take c.upper now) (take c.lower (drop c.upper now)) upper lower now r upper_left lower_left scratch_left
      → ChainsPromise es ns upper lower scratch r upper_left lower_left scratch_left
  answered {c} {now} s long {r} {upper_left} {lower_left} {scratch_left} k =
      let i = take c.upper now in
      let j = take c.lower (drop c.upper now) in
      kept_as
      (by_tests s.tests)
      (subst₂ (λ (i j : List ℕ). Kept (fits i j upper lower) upper lower scratch r upper_left lower_left scratch_left) s.both.upper_is s.both.lower-is
      (record {
        said = k.said;
        upper_is = k.upper_is;
        lower-is = k.lower-is;
        scratch-is = k.scratch-is ∙ scratch_by_length (short i j upper lower) (two i j) now scratch long;
      }))
