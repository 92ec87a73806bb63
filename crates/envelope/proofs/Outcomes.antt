-- No two outcomes satisfy a promise about a ring: two results of which the contract holds, for the same arguments, are one, and so is the final
-- content of everything lent. Assumes nothing.
use mathlib.Core.Path.{◌≡◌, refl, sym, ◌∙◌}
use mathlib.Core.Bool.{Bool}
use contract.Lifetimes.{Lfts}
use denote.Triple.Clauses.{AtExit}
use borrow.Fn.Kinds.{Dens, ended_of}
use Rattle.std.specs.Prelude.{ℕ, Result}
use Rattle.rules.specs.Entries.{Strongest}
use Rattle.envelope.specs.declared.strongest.Greatest.{Greatest}
use Rattle.samples.specs.declared.refusals.Refusal.{Refusal}
use Rattle.samples.specs.Answers.{answer_injective, answer_of_injective}
use Rattle.envelope.specs.UseAnswers.{strongest_as}
use Rattle.envelope.proofs.strongest.strongest.Kinds as strongest-kinds
use Rattle.envelope.proofs.strongest.strongest.Reads as strongest-reads
use Rattle.envelope.proofs.cover.cover.Kinds as cover-kinds
use Rattle.envelope.proofs.cover.cover.Reads as cover-reads
use Rattle.envelope.proofs.turn.turn_about.Kinds as turn-kinds
use Rattle.envelope.proofs.turn.turn_about.Reads as turn-reads

-- the strongest set can be read back from what it says in the rules' words
strongest_from : Strongest → Greatest
strongest_from s = record { set = s.set; place = s.place }

strongest-back : (g : Greatest) → strongest_from (strongest_as g) ≡ g
unfolding strongest_from
strongest-back g = refl

-- ---- the promises

pub strongest-one : (κs : Lfts 2) (a : Dens κs strongest-kinds.ps) (r r' : Result Greatest Refusal)
    (s s' : AtExit (ended_of 2 strongest-kinds.ps strongest-kinds.r) κs) →
    strongest-reads.Post κs a r s → strongest-reads.Post κs a r' s' → r ≡ r'
strongest-one κs a r r' s s' p q = answer_injective strongest_as strongest_from strongest-back r r' (p ∙ sym q)

pub cover_one : (κs : Lfts 2) (a : Dens κs cover-kinds.ps) (r r' : Result Bool Refusal)
    (s s' : AtExit (ended_of 2 cover-kinds.ps cover-kinds.r) κs) →
    cover-reads.Post κs a r s → cover-reads.Post κs a r' s' → r ≡ r'
cover_one κs a r r' s s' p q = answer_of_injective r r' (p ∙ sym q)

pub turn_about_one : (κs : Lfts 4) (a : Dens κs turn-kinds.ps) (r r' : Result ℕ Refusal)
    (s s' : AtExit (ended_of 4 turn-kinds.ps turn-kinds.r) κs) →
    turn-reads.Post κs a r s → turn-reads.Post κs a r' s' →
    (r ≡ r') × ((s.1.1.0.now ≡ s'.1.1.0.now) × (s.1.1.1.0.now ≡ s'.1.1.1.0.now))
turn_about_one κs a r r' s s' p q = (
  answer_of_injective r r' (p.answer ∙ sym q.answer),
  (p.east_after ∙ sym q.east_after, p.north_after ∙ sym q.north_after),
)
