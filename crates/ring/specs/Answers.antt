-- The answer of the ring by the tests of its samples.
-- Assumes nothing.
use Rattle.std.specs.Prelude.{◌≡◌, refl, List, [], ◌∷◌, ℕ, ℤ, Result}
use Rattle.rules.specs.Streams.{streams}
use Rattle.rules.specs.Ring.{ring}
use Rattle.rules.specs.Refusals.{Answer, refused}
use Rattle.rules.specs.Entries.{sample_tests, ring_short, ring_answer}
use Rattle.samples.specs.Answers.{answer_of}
use Rattle.samples.specs.InOrder.{then_answer, answer_by}
use Rattle.samples.specs.declared.refusals.Refusal.{Refusal}
use Rattle.chains.specs.BothSides.{tested, SidesRefused}
use Rattle.closing.specs.RingPromise.{unless_short, Outcome, outcome_as}

module _ (es ns east north : List ℤ) (scratch : List ℕ) where
  -- the tests of the samples, then the outputs
  pub by_tests : {t : Answer (Unit {0})} → tested es ns scratch ≡ t
      → ring_answer es ns east north scratch ≡ then_answer t (unless_short east north (ring (streams es ns)))
  unfolding ring_answer
  by_tests e = answer_by (sample_tests es ns scratch) (ring_short east north (ring (streams es ns)) ∷ []) (ring (streams es ns)) tt e

  pub refused_early : {number place : ℕ} {r : Result ℕ Refusal} {left : List ℕ} → SidesRefused es ns scratch number place left
      → answer_of r ≡ refused number place → Outcome (ring_answer es ns east north scratch) r east east north north scratch left
  refused_early s e = outcome_as (by_tests s.tests) (record { says = e; east_after = refl; north_after = refl; scratch-is = s.scratch-is })
