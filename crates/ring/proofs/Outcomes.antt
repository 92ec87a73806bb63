-- No two outcomes satisfy the promise of the ring entry: two outcomes of which the contract holds, for the same arguments, are one. An outcome is the result and
-- the content of both outputs and of scratch afterwards.
-- Assumes nothing.
use Rattle.std.specs.Prelude.{◌≡◌, ℕ, Result}
use Rattle.std.proofs.Common.{sym, ◌∙◌}
use contract.Lifetimes.{Lfts}
use denote.Triple.Clauses.{AtExit}
use borrow.Fn.Kinds.{Dens, ended_of}
use Rattle.samples.specs.Answers.{answer_of_injective}
use Rattle.samples.specs.declared.refusals.Refusal.{Refusal}
use Rattle.ring.proofs.ring.Kinds as kinds
use Rattle.ring.proofs.ring.Reads as reads

pub ring-one : (κs : Lfts 5) (a : Dens κs kinds.ps) (r r' : Result ℕ Refusal) (s s' : AtExit (ended_of 5 kinds.ps kinds.r) κs) →
    reads.Post κs a r s → reads.Post κs a r' s' →
    (r ≡ r')
    × (s.1.1.0.now ≡ s'.1.1.0.now)
    × (s.1.1.1.0.now ≡ s'.1.1.1.0.now)
    × (s.1.1.1.1.0.now ≡ s'.1.1.1.1.0.now)
ring-one κs a r r' s s' p q = (
  answer_of_injective r r' (p.says ∙ sym q.says),
  p.east_after ∙ sym q.east_after,
  p.north_after ∙ sym q.north_after,
  p.scratch-is ∙ sym q.scratch-is,
)
