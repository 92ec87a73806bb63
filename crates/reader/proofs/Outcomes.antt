-- No two outcomes satisfy the record reader's promise: two outcomes of which the contract holds, for the same arguments, are one. An outcome is the
-- result and the content of both outputs.
-- Assumes nothing.
use mathlib.Core.Path.{◌≡◌, sym, ◌∙◌}
use contract.Lifetimes.{Lfts}
use denote.Triple.Clauses.{AtExit}
use borrow.Fn.Kinds.{Dens, ended_of}
use Rattle.std.specs.Prelude.{ℕ, Result}
use Rattle.samples.specs.declared.refusals.Refusal.{Refusal}
use Rattle.samples.specs.Answers.{answer_of_injective}
use Rattle.reader.proofs.read_record.Kinds as kinds
use Rattle.reader.proofs.read_record.Reads as reads

pub read_record_one : (κs : Lfts 3) (a : Dens κs kinds.ps) (r r' : Result ℕ Refusal) (s s' : AtExit (ended_of 3 kinds.ps kinds.r) κs) →
    reads.Post κs a r s → reads.Post κs a r' s' →
    (r ≡ r') × (s.1.0.now ≡ s'.1.0.now) × (s.1.1.0.now ≡ s'.1.1.0.now)
read_record_one κs a r r' s s' p q =
    (answer_of_injective r r' (p.0 ∙ sym q.0), p.1.0 ∙ sym q.1.0, p.1.1 ∙ sym q.1.1)
