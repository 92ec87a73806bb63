-- The contract of each function that answers is the promise that its specs state, which cites the rules' answer: of what is given (a), what is answered (r),
-- and what is left of all that is lent (s). A contract of several equations is their product. Assumes nothing.
use mathlib.Core.Path.{◌≡◌, refl}
use Prim.Native.Nat.{ℕ}
use lib.ListN.{length}
use contract.Lifetimes.{Lfts}
use denote.Triple.Clauses.{AtExit}
use borrow.Fn.Kinds.{Dens, ended_of}
use Rattle.rules.specs.Lists.{written}
use Rattle.rules.specs.Program.{program}
use Rattle.program.specs.Prints.{Answers}
use Rattle.program.proofs.answer.answer.Kinds as kinds
use Rattle.program.proofs.answer.answer.Reads as reads
use Rattle.program.proofs.answer.answer_input.Kinds as input-kinds
use Rattle.program.proofs.answer.answer_input.Reads as input-reads

pub record Contracts : Type 1 where
  pub of_answer : (κs : Lfts 2) (a : Dens κs kinds.ps) (r : ℕ) (s : AtExit (ended_of 2 kinds.ps kinds.r) κs) →
      let text = program a.0.now in
      reads.Post κs a r s ≡ ((r ≡ length text) × (s.1.0.now ≡ written text a.1.0.now))
  pub of_answer_input : (κs : Lfts 2) (a : Dens κs input-kinds.ps) (r : ℕ) (s : AtExit (ended_of 2 input-kinds.ps input-kinds.r) κs) →
      input-reads.Post κs a r s ≡ Answers a.0.now a.1.0 r a.1.1.0.now s.1.1.0.now

pub contracts : Contracts
contracts = record {
  of_answer = λ κs a r s. refl;
  of_answer_input = λ κs a r s. refl;
}
