-- No two outcomes satisfy a promise of the program's text: two outcomes of which the contract holds, for the same arguments, are one. An outcome is the
-- result and the content of every list lent to be written.
-- Assumes nothing.
use mathlib.Core.Path.{◌≡◌, sym, ◌∙◌}
use Prim.Native.Nat.{ℕ}
use contract.Lifetimes.{Lfts}
use denote.Triple.Clauses.{AtExit}
use borrow.Fn.Kinds.{Dens, ended_of}
use Rattle.samples.specs.Answers.{answer_of_injective}
use Rattle.std.specs.Prelude.{Result}
use Rattle.samples.specs.declared.refusals.Refusal.{Refusal}
use Rattle.text.proofs.reading.samples.Kinds as samples-kinds
use Rattle.text.proofs.reading.samples.Reads as samples-reads
use Rattle.text.proofs.printing.print_ring.Kinds as ring-kinds
use Rattle.text.proofs.printing.print_ring.Reads as ring-reads
use Rattle.text.proofs.printing.print_refusal.Kinds as refusal-kinds
use Rattle.text.proofs.printing.print_refusal.Reads as refusal-reads

pub samples-one : (κs : Lfts 3) (a : Dens κs samples-kinds.ps) (r r' : Result ℕ Refusal) (s s' : AtExit (ended_of 3 samples-kinds.ps samples-kinds.r) κs) →
    samples-reads.Post κs a r s → samples-reads.Post κs a r' s' →
    (r ≡ r') × (s.1.0.now ≡ s'.1.0.now) × (s.1.1.0.now ≡ s'.1.1.0.now)
samples-one κs a r r' s s' p q =
    (answer_of_injective r r' (p.0 ∙ sym q.0), p.1.0 ∙ sym q.1.0, p.1.1 ∙ sym q.1.1)

pub print_ring_one : (κs : Lfts 3) (a : Dens κs ring-kinds.ps) (r r' : ℕ) (s s' : AtExit (ended_of 3 ring-kinds.ps ring-kinds.r) κs) →
    ring-reads.Post κs a r s → ring-reads.Post κs a r' s' → (r ≡ r') × (s.1.1.0.now ≡ s'.1.1.0.now)
print_ring_one κs a r r' s s' p q = (p.0 ∙ sym q.0, p.1 ∙ sym q.1)

pub print_refusal_one : (κs : Lfts 1) (a : Dens κs refusal-kinds.ps) (r r' : ℕ) (s s' : AtExit (ended_of 1 refusal-kinds.ps refusal-kinds.r) κs) →
    refusal-reads.Post κs a r s → refusal-reads.Post κs a r' s' → (r ≡ r') × (s.1.1.0.now ≡ s'.1.1.0.now)
print_refusal_one κs a r r' s s' p q = (p.0 ∙ sym q.0, p.1 ∙ sym q.1)
