-- No two outcomes satisfy the promise of the round: two outcomes of which it holds, for the same arguments, are one. An outcome is the answer, and the
-- content of the output and of the scratch afterwards.
-- Assumes nothing.
use Rattle.std.specs.Prelude.{◌≡◌, Result}
use mathlib.Core.Path.{refl, sym, ◌∙◌}
use contract.Lifetimes.{Lfts}
use denote.Triple.Clauses.{AtExit}
use borrow.Fn.Kinds.{Dens, ended_of}
use Rattle.samples.specs.Answers.{answer_injective}
use Rattle.samples.specs.declared.refusals.Refusal.{Refusal}
use Rattle.round.specs.declared.turn.Said.{Said}
use Rattle.round.specs.declared.turn.Said.TheVariants.{Found, Kept}
use Rattle.round.specs.Promise.{Told, bridge_of, count_of, told_by}
use Rattle.round.proofs.round.Kinds as kinds
use Rattle.round.proofs.round.Reads as reads

-- what a round says can be read back from what it tells
said_from : Told → Said
said_from (bridge_of b) = Found b.left b.right
said_from (count_of m) = Kept m

said_back : (s : Said) → said_from (told_by s) ≡ s
unfolding said_from
said_back (Found i j) = refl
said_back (Kept m) = refl

pub round-one : (κs : Lfts 5) (a : Dens κs kinds.ps) (r r' : Result Said Refusal) (s s' : AtExit (ended_of 5 kinds.ps kinds.r) κs) →
    reads.Post κs a r s → reads.Post κs a r' s' →
    (r ≡ r') × (s.1.1.1.1.0.now ≡ s'.1.1.1.1.0.now) × (s.1.1.1.1.1.0.now ≡ s'.1.1.1.1.1.0.now)
round-one κs a r r' s s' p q = (
  answer_injective told_by said_from said_back r r' (p.answer ∙ sym q.answer),
  p.output_is ∙ sym q.output_is,
  p.scratch-is ∙ sym q.scratch-is,
)
