-- No two outcomes satisfy the promise of chains: two outcomes of which it holds, for the same arguments, are one. An outcome is the answer, and the
-- content of both outputs and of the scratch afterwards.
-- Assumes nothing.
use Rattle.std.specs.Prelude.{◌≡◌, Result}
use Rattle.std.proofs.Common.{sym, ◌∙◌}
use contract.Lifetimes.{Lfts}
use denote.Triple.Clauses.{AtExit}
use borrow.Fn.Kinds.{Dens, ended_of}
use Rattle.samples.specs.Answers.{answer_of_injective}
use Rattle.samples.specs.declared.refusals.Refusal.{Refusal}
use Rattle.chains.specs.declared.Counts.{Counts}
use Rattle.chains.proofs.chains.Kinds as kinds
use Rattle.chains.proofs.chains.Reads as reads

pub chains_one : (κs : Lfts 5) (a : Dens κs kinds.ps) (r r' : Result Counts Refusal) (s s' : AtExit (ended_of 5 kinds.ps kinds.r) κs) →
    reads.Post κs a r s → reads.Post κs a r' s' →
    (r ≡ r')
    × (s.1.1.0.now ≡ s'.1.1.0.now)
    × (s.1.1.1.0.now ≡ s'.1.1.1.0.now)
    × (s.1.1.1.1.0.now ≡ s'.1.1.1.1.0.now)
chains_one κs a r r' s s' p q = (
  answer_of_injective r r' (p.said ∙ sym q.said),
  p.upper_is ∙ sym q.upper_is,
  p.lower-is ∙ sym q.lower-is,
  p.scratch-is ∙ sym q.scratch-is,
)
