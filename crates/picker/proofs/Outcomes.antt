-- No two outcomes satisfy the contract of `pick`: for the same numbers, rank and scratch no two different answers keep it, nor two different contents of the
-- scratch that is left. `reads.Post` is that contract as the check reads it from the source: what must hold of the arguments a, of what is said, and of
-- the parameters s at exit, of which scratch is the third. `kinds` names the types of these.
-- Assumes nothing.
use mathlib.Core.Path.{◌≡◌, sym, ◌∙◌}
use lib.IntN.{ℤ}
use contract.Lifetimes.{Lfts}
use denote.Triple.Clauses.{AtExit}
use borrow.Fn.Kinds.{Dens, ended_of}
use Rattle.std.specs.Prelude.{Result}
use Rattle.samples.specs.Answers.{answer_of_injective}
use Rattle.samples.specs.declared.refusals.Refusal.{Refusal}
use Rattle.picker.proofs.pick.Kinds as kinds
use Rattle.picker.proofs.pick.Reads as reads

pub pick_one : (κs : Lfts 2) (a : Dens κs kinds.ps) (r r' : Result ℤ Refusal) (s s' : AtExit (ended_of 2 kinds.ps kinds.r) κs) →
    reads.Post κs a r s → reads.Post κs a r' s' → (r ≡ r') × (s.1.1.0.now ≡ s'.1.1.0.now)
pick_one κs a r r' s s' p q = (answer_of_injective r r' (p.answer ∙ sym q.answer), p.scratch ∙ sym q.scratch)
