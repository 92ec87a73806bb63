-- No two outcomes satisfy the promise of the bridge: two outcomes of which it holds, for the same arguments, are one. An outcome is the answer, and the
-- content of the scratch afterwards.
-- Assumes nothing.
use Rattle.std.specs.Prelude.{◌≡◌, ℕ, Result}
use mathlib.Core.Path.{refl, sym, ◌∙◌}
use contract.Lifetimes.{Lfts}
use denote.Triple.Clauses.{AtExit}
use borrow.Fn.Kinds.{Dens, ended_of}
use Rattle.rules.specs.Bridge.{Bridge}
use Rattle.samples.specs.Answers.{answer_injective}
use Rattle.samples.specs.declared.refusals.Refusal.{Refusal}
use Rattle.bridge.specs.declared.Ends.{Ends}
use Rattle.bridge.specs.Promise.{ends_of}
use Rattle.bridge.proofs.bridge.Kinds as kinds
use Rattle.bridge.proofs.bridge.Reads as reads

-- two ends can be read back from the bridge that they are
ends_from : Bridge ℕ → Ends
ends_from b = record { left = b.left; right = b.right }

ends_back : (e : Ends) → ends_from (ends_of e) ≡ e
unfolding ends_from
ends_back e = refl

pub bridge-one : (κs : Lfts 3) (a : Dens κs kinds.ps) (r r' : Result Ends Refusal) (s s' : AtExit (ended_of 3 kinds.ps kinds.r) κs) →
    reads.Post κs a r s → reads.Post κs a r' s' → (r ≡ r') × (s.1.1.1.0.now ≡ s'.1.1.1.0.now)
bridge-one κs a r r' s s' p q =
    (answer_injective ends_of ends_from ends_back r r' (p.answer ∙ sym q.answer), p.scratch-is ∙ sym q.scratch-is)
