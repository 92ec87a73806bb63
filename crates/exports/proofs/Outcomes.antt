-- No two outcomes satisfy a contract of the C face: two outcomes of which it holds, for the same arguments, are one. An outcome is the result and the
-- content of every list lent to be written. Each contract has one equation for each of these, from the arguments alone.
-- Assumes nothing.
use mathlib.Core.Path.{◌≡◌, sym, ◌∙◌}
use contract.Lifetimes.{Lfts}
use denote.Triple.Clauses.{AtExit}
use borrow.Fn.Kinds.{Dens, ended_of}
use Rattle.exports.specs.Rings.{ring-face-one}
use Rattle.exports.specs.declared.picks.PickedC.{PickedC}
use Rattle.exports.specs.declared.rounds.RoundSaid.{RoundSaid}
use Rattle.exports.specs.declared.bridges.Bridged.{Bridged}
use Rattle.exports.specs.declared.chained.ChainsC.{ChainsC}
use Rattle.exports.specs.declared.counts.CountedC.{CountedC}
use Rattle.exports.specs.declared.hands.HandMade.{HandMade}
use Rattle.exports.specs.declared.hands.HandStepped.{HandStepped}
use Rattle.exports.specs.declared.uses.StrongestC.{StrongestC}
use Rattle.exports.specs.declared.uses.CoverTold.{CoverTold}
use Rattle.exports.specs.declared.doors.PartTaken.{PartTaken}
use Rattle.exports.specs.declared.doors.ReadingsTaken.{ReadingsTaken}
use Rattle.exports.proofs.picks.nuoskelma_pick.Kinds as pick-kinds
use Rattle.exports.proofs.picks.nuoskelma_pick.Reads as pick-reads
use Rattle.exports.proofs.rounds.nuoskelma_round.Kinds as round-kinds
use Rattle.exports.proofs.rounds.nuoskelma_round.Reads as round-reads
use Rattle.exports.proofs.bridges.nuoskelma_bridge.Kinds as bridge-kinds
use Rattle.exports.proofs.bridges.nuoskelma_bridge.Reads as bridge-reads
use Rattle.exports.proofs.chained.nuoskelma_chains.Kinds as chains-kinds
use Rattle.exports.proofs.chained.nuoskelma_chains.Reads as chains-reads
use Rattle.exports.proofs.rings.nuoskelma_ring.Kinds as ring-kinds
use Rattle.exports.proofs.rings.nuoskelma_ring.Reads as ring-reads
use Rattle.exports.proofs.hands.nuoskelma_hand_for.Kinds as hand-for-kinds
use Rattle.exports.proofs.hands.nuoskelma_hand_for.Reads as hand-for-reads
use Rattle.exports.proofs.hands.nuoskelma_hand_step.Kinds as hand-step-kinds
use Rattle.exports.proofs.hands.nuoskelma_hand_step.Reads as hand-step-reads
use Rattle.exports.proofs.uses.nuoskelma_strongest.Kinds as strongest-kinds
use Rattle.exports.proofs.uses.nuoskelma_strongest.Reads as strongest-reads
use Rattle.exports.proofs.uses.nuoskelma_cover.Kinds as cover-kinds
use Rattle.exports.proofs.uses.nuoskelma_cover.Reads as cover-reads
use Rattle.exports.proofs.rings.nuoskelma_join.Kinds as join-kinds
use Rattle.exports.proofs.rings.nuoskelma_join.Reads as join-reads
use Rattle.exports.proofs.rings.nuoskelma_sum.Kinds as sum-kinds
use Rattle.exports.proofs.rings.nuoskelma_sum.Reads as sum-reads
use Rattle.exports.proofs.uses.nuoskelma_turn_about.Kinds as turn-about-kinds
use Rattle.exports.proofs.uses.nuoskelma_turn_about.Reads as turn-about-reads
use Rattle.exports.proofs.doors.nuoskelma_part.Kinds as part-kinds
use Rattle.exports.proofs.doors.nuoskelma_part.Reads as part-reads
use Rattle.exports.proofs.doors.nuoskelma_readings.Kinds as readings-kinds
use Rattle.exports.proofs.doors.nuoskelma_readings.Reads as readings-reads
use Rattle.exports.proofs.records.nuoskelma_record.Kinds as record-kinds
use Rattle.exports.proofs.records.nuoskelma_record.Reads as record-reads
use Rattle.exports.proofs.records.nuoskelma_write_record.Kinds as write-kinds
use Rattle.exports.proofs.records.nuoskelma_write_record.Reads as write-reads

pub pick_one : (κs : Lfts 2) (a : Dens κs pick-kinds.ps) (r r' : PickedC) (s s' : AtExit (ended_of 2 pick-kinds.ps pick-kinds.r) κs) →
    pick-reads.Post κs a r s → pick-reads.Post κs a r' s' → (r ≡ r') × (s.1.1.0.now ≡ s'.1.1.0.now)
pick_one κs a r r' s s' p q = (p.0 ∙ sym q.0, p.1 ∙ sym q.1)

pub round-one : (κs : Lfts 5) (a : Dens κs round-kinds.ps) (r r' : RoundSaid) (s s' : AtExit (ended_of 5 round-kinds.ps round-kinds.r) κs) →
    round-reads.Post κs a r s → round-reads.Post κs a r' s' →
    (r ≡ r') × (s.1.1.1.1.0.now ≡ s'.1.1.1.1.0.now) × (s.1.1.1.1.1.0.now ≡ s'.1.1.1.1.1.0.now)
round-one κs a r r' s s' p q = (p.0 ∙ sym q.0, p.1.0 ∙ sym q.1.0, p.1.1 ∙ sym q.1.1)

pub bridge-one : (κs : Lfts 3) (a : Dens κs bridge-kinds.ps) (r r' : Bridged) (s s' : AtExit (ended_of 3 bridge-kinds.ps bridge-kinds.r) κs) →
    bridge-reads.Post κs a r s → bridge-reads.Post κs a r' s' → (r ≡ r') × (s.1.1.1.0.now ≡ s'.1.1.1.0.now)
bridge-one κs a r r' s s' p q = (p.0 ∙ sym q.0, p.1 ∙ sym q.1)

pub chains_one : (κs : Lfts 5) (a : Dens κs chains-kinds.ps) (r r' : ChainsC) (s s' : AtExit (ended_of 5 chains-kinds.ps chains-kinds.r) κs) →
    chains-reads.Post κs a r s → chains-reads.Post κs a r' s' →
    (r ≡ r') × (s.1.1.0.now ≡ s'.1.1.0.now) × (s.1.1.1.0.now ≡ s'.1.1.1.0.now) × (s.1.1.1.1.0.now ≡ s'.1.1.1.1.0.now)
chains_one κs a r r' s s' p q = (p.0 ∙ sym q.0, p.1.0 ∙ sym q.1.0, p.1.1.0 ∙ sym q.1.1.0, p.1.1.1 ∙ sym q.1.1.1)

pub ring-one : (κs : Lfts 5) (a : Dens κs ring-kinds.ps) (r r' : CountedC) (s s' : AtExit (ended_of 5 ring-kinds.ps ring-kinds.r) κs) →
    ring-reads.Post κs a r s → ring-reads.Post κs a r' s' →
    (r ≡ r') × (s.1.1.0.now ≡ s'.1.1.0.now) × (s.1.1.1.0.now ≡ s'.1.1.1.0.now) × (s.1.1.1.1.0.now ≡ s'.1.1.1.1.0.now)
ring-one κs a r r' s s' p q = ring-face-one p q

pub hand_for_one : (κs : Lfts 0) (a : Dens κs hand-for-kinds.ps) (r r' : HandMade) (s s' : AtExit (ended_of 0 hand-for-kinds.ps hand-for-kinds.r) κs) →
    hand-for-reads.Post κs a r s → hand-for-reads.Post κs a r' s' → r ≡ r'
hand_for_one κs a r r' s s' p q = p ∙ sym q

pub hand-step-one : (κs : Lfts 0) (a : Dens κs hand-step-kinds.ps) (r r' : HandStepped) (s s' : AtExit (ended_of 0 hand-step-kinds.ps hand-step-kinds.r) κs) →
    hand-step-reads.Post κs a r s → hand-step-reads.Post κs a r' s' → r ≡ r'
hand-step-one κs a r r' s s' p q = p ∙ sym q

pub strongest-one : (κs : Lfts 2) (a : Dens κs strongest-kinds.ps) (r r' : StrongestC) (s s' : AtExit (ended_of 2 strongest-kinds.ps strongest-kinds.r) κs) →
    strongest-reads.Post κs a r s → strongest-reads.Post κs a r' s' → r ≡ r'
strongest-one κs a r r' s s' p q = p ∙ sym q

pub cover_one : (κs : Lfts 2) (a : Dens κs cover-kinds.ps) (r r' : CoverTold) (s s' : AtExit (ended_of 2 cover-kinds.ps cover-kinds.r) κs) →
    cover-reads.Post κs a r s → cover-reads.Post κs a r' s' → r ≡ r'
cover_one κs a r r' s s' p q = p ∙ sym q

pub join_one : (κs : Lfts 7) (a : Dens κs join-kinds.ps) (r r' : CountedC) (s s' : AtExit (ended_of 7 join-kinds.ps join-kinds.r) κs) →
    join-reads.Post κs a r s → join-reads.Post κs a r' s' →
    (r ≡ r')
    × (s.1.1.1.1.0.now ≡ s'.1.1.1.1.0.now)
    × (s.1.1.1.1.1.0.now ≡ s'.1.1.1.1.1.0.now)
    × (s.1.1.1.1.1.1.0.now ≡ s'.1.1.1.1.1.1.0.now)
join_one κs a r r' s s' p q = ring-face-one p q

pub sum_one : (κs : Lfts 7) (a : Dens κs sum-kinds.ps) (r r' : CountedC) (s s' : AtExit (ended_of 7 sum-kinds.ps sum-kinds.r) κs) →
    sum-reads.Post κs a r s → sum-reads.Post κs a r' s' →
    (r ≡ r')
    × (s.1.1.1.1.0.now ≡ s'.1.1.1.1.0.now)
    × (s.1.1.1.1.1.0.now ≡ s'.1.1.1.1.1.0.now)
    × (s.1.1.1.1.1.1.0.now ≡ s'.1.1.1.1.1.1.0.now)
sum_one κs a r r' s s' p q = ring-face-one p q

pub turn_about_one : (κs : Lfts 4) (a : Dens κs turn-about-kinds.ps) (r r' : CountedC) (s s' : AtExit (ended_of 4 turn-about-kinds.ps turn-about-kinds.r) κs) →
    turn-about-reads.Post κs a r s → turn-about-reads.Post κs a r' s' →
    (r ≡ r') × (s.1.1.0.now ≡ s'.1.1.0.now) × (s.1.1.1.0.now ≡ s'.1.1.1.0.now)
turn_about_one κs a r r' s s' p q = (p.0 ∙ sym q.0, p.1.0 ∙ sym q.1.0, p.1.1 ∙ sym q.1.1)

pub part-one : (κs : Lfts 0) (a : Dens κs part-kinds.ps) (r r' : PartTaken) (s s' : AtExit (ended_of 0 part-kinds.ps part-kinds.r) κs) →
    part-reads.Post κs a r s → part-reads.Post κs a r' s' → r ≡ r'
part-one κs a r r' s s' p q = p ∙ sym q

pub readings-one : (κs : Lfts 4) (a : Dens κs readings-kinds.ps) (r r' : ReadingsTaken) (s s' : AtExit (ended_of 4 readings-kinds.ps readings-kinds.r) κs) →
    readings-reads.Post κs a r s → readings-reads.Post κs a r' s' →
    (r ≡ r') × (s.1.1.0.now ≡ s'.1.1.0.now) × (s.1.1.1.0.now ≡ s'.1.1.1.0.now)
readings-one κs a r r' s s' p q = (p.0 ∙ sym q.0, p.1.0 ∙ sym q.1.0, p.1.1 ∙ sym q.1.1)

pub record_one : (κs : Lfts 3) (a : Dens κs record-kinds.ps) (r r' : CountedC) (s s' : AtExit (ended_of 3 record-kinds.ps record-kinds.r) κs) →
    record-reads.Post κs a r s → record-reads.Post κs a r' s' → (r ≡ r') × (s.1.0.now ≡ s'.1.0.now) × (s.1.1.0.now ≡ s'.1.1.0.now)
record_one κs a r r' s s' p q = (p.0 ∙ sym q.0, p.1.0 ∙ sym q.1.0, p.1.1 ∙ sym q.1.1)

pub write_record_one : (κs : Lfts 3) (a : Dens κs write-kinds.ps) (r r' : CountedC) (s s' : AtExit (ended_of 3 write-kinds.ps write-kinds.r) κs) →
    write-reads.Post κs a r s → write-reads.Post κs a r' s' → (r ≡ r') × (s.1.1.1.1.0.now ≡ s'.1.1.1.1.0.now)
write_record_one κs a r r' s s' p q = (p.0 ∙ sym q.0, p.1 ∙ sym q.1)
