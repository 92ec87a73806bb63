-- No two outcomes satisfy a promise of the program's answer: two outcomes of which the contract holds, for the same arguments, are one. An outcome is the
-- count of bytes and the content of the output.
-- Assumes nothing.
use mathlib.Core.Path.{◌≡◌, sym, ◌∙◌}
use Prim.Native.Nat.{ℕ}
use contract.Lifetimes.{Lfts}
use denote.Triple.Clauses.{AtExit}
use borrow.Fn.Kinds.{Dens, ended_of}
use Rattle.program.specs.Prints.{answers_one}
use Rattle.program.proofs.answer.answer.Kinds as kinds
use Rattle.program.proofs.answer.answer.Reads as reads
use Rattle.program.proofs.answer.answer_input.Kinds as input-kinds
use Rattle.program.proofs.answer.answer_input.Reads as input-reads

pub answer_one : (κs : Lfts 2) (a : Dens κs kinds.ps) (r r' : ℕ) (s s' : AtExit (ended_of 2 kinds.ps kinds.r) κs) →
    reads.Post κs a r s → reads.Post κs a r' s' → (r ≡ r') × (s.1.0.now ≡ s'.1.0.now)
answer_one κs a r r' s s' p q = (p.0 ∙ sym q.0, p.1 ∙ sym q.1)

pub answer_input_one : (κs : Lfts 2) (a : Dens κs input-kinds.ps) (r r' : ℕ) (s s' : AtExit (ended_of 2 input-kinds.ps input-kinds.r) κs) →
    input-reads.Post κs a r s → input-reads.Post κs a r' s' → (r ≡ r') × (s.1.1.0.now ≡ s'.1.1.0.now)
answer_input_one κs a r r' s s' p q =
    answers_one a.0.now a.1.0 r r' a.1.1.0.now s.1.1.0.now s'.1.1.0.now p q
