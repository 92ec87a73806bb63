-- No two outcomes satisfy a promise of the ring hand's: two results of which the contract holds, for the same arguments, are one.
-- Assumes nothing.
use mathlib.Core.Path.{◌≡◌, refl, sym, ap, ◌∙◌}
use contract.Lifetimes.{Lfts}
use denote.Triple.Clauses.{AtExit}
use borrow.Fn.Kinds.{Dens, ended_of}
use Rattle.std.specs.Prelude.{Result}
use Rattle.rules.specs.Use.{HandAt}
use Rattle.rules.specs.Entries.{HandStep}
use Rattle.samples.specs.Answers.{answer_injective}
use Rattle.samples.specs.declared.refusals.Refusal.{Refusal}
use Rattle.hand.specs.declared.Hand.{Hand}
use Rattle.hand.specs.declared.Step.{Step}
use Rattle.hand.specs.declared.Edge.{Edge}
use Rattle.hand.specs.HandAnswers.{hand_at, edge_as}
use Rattle.hand.proofs.Hand.made_for.Kinds as made-kinds
use Rattle.hand.proofs.Hand.made_for.Reads as made_reads
use Rattle.hand.proofs.Hand.step.Kinds as step-kinds
use Rattle.hand.proofs.Hand.step.Reads as step-reads

-- ---- a value can be read back from what it says in the rules' words

hand_of : HandAt → Hand
hand_of h = record { count = h.count; place = h.place }

edge_of : HandStep → Edge
edge_of e = record { from = e.from; to = e.to }

hand-back : (h : Hand) → hand_of (hand_at h) ≡ h
unfolding hand_of
hand-back h = refl

edge-back : (e : Edge) → edge_of (edge_as e) ≡ e
unfolding edge_of
edge-back e = refl

-- ---- the promises

pub made_for_one : (κs : Lfts 0) (a : Dens κs made-kinds.ps) (r r' : Result Hand Refusal) (s s' : AtExit (ended_of 0 made-kinds.ps made-kinds.r) κs) →
    made_reads.Post κs a r s → made_reads.Post κs a r' s' → r ≡ r'
made_for_one κs a r r' s s' p q = answer_injective hand_at hand_of hand-back r r' (p ∙ sym q)

pub step-one : (κs : Lfts 0) (a : Dens κs step-kinds.ps) (r r' : Step) (s s' : AtExit (ended_of 0 step-kinds.ps step-kinds.r) κs) →
    step-reads.Post κs a r s → step-reads.Post κs a r' s' → r ≡ r'
unfolding hand_of
step-one κs a r r' s s' p q =
    let e = answer_injective edge_as edge_of edge-back r.edge r'.edge (p.0 ∙ sym q.0) in
    let n = ap hand_of (p.1 ∙ sym q.1) in
    λ i. record { edge = e i; next = n i }
