-- What comes of the last test of a sum: an output is too short for it, or it is written. Assumes nothing.
use Rattle.std.specs.Prelude.{◌≡◌, true, false, ◌||◌, List, ℕ, ℤ, ltb, length, Result, Ok}
use Rattle.std.proofs.Common.{ap, ◌∙◌}
use Rattle.rules.specs.Lists.{written, zeros}
use Rattle.rules.specs.Streams.{Stream, sample}
use Rattle.rules.specs.Refusals.{refused}
use Rattle.rules.specs.Entries.{easts, norths}
use Rattle.laws_stack.specs.Places.{listed}
use Rattle.samples.specs.Answers.{answer_of}
use Rattle.samples.specs.declared.refusals.Refusal.{Refusal}
use Rattle.closing.specs.RingPromise.{unless_short, Outcome}
use Rattle.closing.specs.RingWritten.{outcome_short, outcome_done}
use Rattle.sum.specs.Listing.{all_listed, all-written}

-- a ring R of n corners
module _ (R : List Stream) (n : ℕ) (e : length R ≡ n) (east north : List ℤ) (scratch : List ℕ) {scratch' : List ℕ} (z : scratch' ≡ zeros scratch) where
  by_places : R ≡ listed (sample R) n
  by_places = all_listed R ∙ ap (listed (sample R)) e

  pub short : {r : Result ℕ Refusal} → answer_of r ≡ refused 5 0 → (ltb (length east) n || ltb (length north) n) ≡ true
      → Outcome (unless_short east north R) r east east north north scratch scratch'
  short s t = outcome_short R (sample R) n by_places east north scratch s t z

  pub done : {east' north' : List ℤ} → (ltb (length east) n || ltb (length north) n) ≡ false → east' ≡ written (easts R) east → north' ≡ written (norths R) north
      → Outcome (unless_short east north R) (Ok n) east east' north north' scratch scratch'
  done t p q =
      outcome_done R (sample R) n by_places east north scratch t (p ∙ all-written (λ s. s.east) R n east e) (q ∙ all-written (λ s. s.north) R n north e) z
