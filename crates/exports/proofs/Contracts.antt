-- The contract of each function of the C face: the result is the face of the rules' answer, and every list lent to be written is left as the answer says; of
-- what is given (a), what is returned (r), and what is left of all that is lent (s). A contract of several equations is their product, or `RingFace`.
-- Assumes nothing.
use mathlib.Core.Path.{◌≡◌, refl}
use contract.Lifetimes.{Lfts}
use denote.Triple.Clauses.{AtExit}
use borrow.Fn.Kinds.{Dens, ended_of}
use Rattle.rules.specs.Refusals.{output_after, scratch_after}
use Rattle.rules.specs.Door.{part, readings}
use Rattle.rules.specs.Entries.{pick_answer, round_answer, kept_list, bridge_answer, chains_answer, ring_answer, hand_answer, hand_step_answer, strongest_answer, cover_answer, join_answer, sum_answer, turn_answer, door_answer, door_output_after, taken_east, taken_north, record_answer, write_answer}
use Rattle.exports.specs.Picks.{picked_face}
use Rattle.exports.specs.Rounds.{round_face}
use Rattle.exports.specs.Bridges.{bridge_face}
use Rattle.exports.specs.Chains.{chains_face, uppers, lowers}
use Rattle.exports.specs.Rings.{strongest_face, cover_face, counted_face, parts_east, parts_north, RingFace}
use Rattle.exports.specs.Hands.{hand_at, made_face, stepped_face}
use Rattle.exports.specs.Doors.{part_face, readings_face}
use Rattle.exports.specs.declared.picks.PickedC.{PickedC}
use Rattle.exports.specs.declared.rounds.RoundSaid.{RoundSaid}
use Rattle.exports.specs.declared.bridges.Bridged.{Bridged}
use Rattle.exports.specs.declared.chained.ChainsC.{ChainsC}
use Rattle.exports.specs.declared.counts.CountedC.{CountedC}
use Rattle.exports.specs.declared.hands.HandMade.{HandMade}
use Rattle.exports.specs.declared.hands.HandStepped.{HandStepped}
use Rattle.exports.specs.declared.uses.StrongestC.{StrongestC}
use Rattle.exports.specs.declared.uses.CoverTold.{CoverTold}
use Rattle.exports.specs.declared.doors.PartTaken.{PartTaken}
use Rattle.exports.specs.declared.doors.ReadingsTaken.{ReadingsTaken}
use Rattle.exports.proofs.picks.nuoskelma_pick.Kinds as pick-kinds
use Rattle.exports.proofs.picks.nuoskelma_pick.Reads as pick-reads
use Rattle.exports.proofs.rounds.nuoskelma_round.Kinds as round-kinds
use Rattle.exports.proofs.rounds.nuoskelma_round.Reads as round-reads
use Rattle.exports.proofs.bridges.nuoskelma_bridge.Kinds as bridge-kinds
use Rattle.exports.proofs.bridges.nuoskelma_bridge.Reads as bridge-reads
use Rattle.exports.proofs.chained.nuoskelma_chains.Kinds as chains-kinds
use Rattle.exports.proofs.chained.nuoskelma_chains.Reads as chains-reads
use Rattle.exports.proofs.rings.nuoskelma_ring.Kinds as ring-kinds
use Rattle.exports.proofs.rings.nuoskelma_ring.Reads as ring-reads
use Rattle.exports.proofs.hands.nuoskelma_hand_for.Kinds as hand-for-kinds
use Rattle.exports.proofs.hands.nuoskelma_hand_for.Reads as hand-for-reads
use Rattle.exports.proofs.hands.nuoskelma_hand_step.Kinds as hand-step-kinds
use Rattle.exports.proofs.hands.nuoskelma_hand_step.Reads as hand-step-reads
use Rattle.exports.proofs.uses.nuoskelma_strongest.Kinds as strongest-kinds
use Rattle.exports.proofs.uses.nuoskelma_strongest.Reads as strongest-reads
use Rattle.exports.proofs.uses.nuoskelma_cover.Kinds as cover-kinds
use Rattle.exports.proofs.uses.nuoskelma_cover.Reads as cover-reads
use Rattle.exports.proofs.rings.nuoskelma_join.Kinds as join-kinds
use Rattle.exports.proofs.rings.nuoskelma_join.Reads as join-reads
use Rattle.exports.proofs.rings.nuoskelma_sum.Kinds as sum-kinds
use Rattle.exports.proofs.rings.nuoskelma_sum.Reads as sum-reads
use Rattle.exports.proofs.uses.nuoskelma_turn_about.Kinds as turn-about-kinds
use Rattle.exports.proofs.uses.nuoskelma_turn_about.Reads as turn-about-reads
use Rattle.exports.proofs.doors.nuoskelma_part.Kinds as part-kinds
use Rattle.exports.proofs.doors.nuoskelma_part.Reads as part-reads
use Rattle.exports.proofs.doors.nuoskelma_readings.Kinds as readings-kinds
use Rattle.exports.proofs.doors.nuoskelma_readings.Reads as readings-reads
use Rattle.exports.proofs.records.nuoskelma_record.Kinds as record-kinds
use Rattle.exports.proofs.records.nuoskelma_record.Reads as record-reads
use Rattle.exports.proofs.records.nuoskelma_write_record.Kinds as write-kinds
use Rattle.exports.proofs.records.nuoskelma_write_record.Reads as write-reads

pub record Contracts : Type 1 where
  pub of_pick : (κs : Lfts 2) (a : Dens κs pick-kinds.ps) (r : PickedC) (s : AtExit (ended_of 2 pick-kinds.ps pick-kinds.r) κs) →
      let answer = pick_answer a.0.now a.1.0 a.1.1.0.now in
      pick-reads.Post κs a r s ≡ ((r ≡ picked_face answer) × (s.1.1.0.now ≡ scratch_after answer a.1.1.0.now))
  pub of_round : (κs : Lfts 5) (a : Dens κs round-kinds.ps) (r : RoundSaid) (s : AtExit (ended_of 5 round-kinds.ps round-kinds.r) κs) →
      let answer = round_answer a.0.now a.1.0.now a.1.1.0.now a.1.1.1.0 a.1.1.1.1.0.now a.1.1.1.1.1.0.now in
      round-reads.Post κs a r s
      ≡ ((r ≡ round_face answer)
      × ((s.1.1.1.1.0.now ≡ output_after kept_list answer a.1.1.1.1.0.now)
      × (s.1.1.1.1.1.0.now ≡ scratch_after answer a.1.1.1.1.1.0.now)))
  pub of_bridge : (κs : Lfts 3) (a : Dens κs bridge-kinds.ps) (r : Bridged) (s : AtExit (ended_of 3 bridge-kinds.ps bridge-kinds.r) κs) →
      let answer = bridge_answer a.0.now a.1.0.now a.1.1.0 a.1.1.1.0.now in
      bridge-reads.Post κs a r s ≡ ((r ≡ bridge_face answer) × (s.1.1.1.0.now ≡ scratch_after answer a.1.1.1.0.now))
  pub of_chains : (κs : Lfts 5) (a : Dens κs chains-kinds.ps) (r : ChainsC) (s : AtExit (ended_of 5 chains-kinds.ps chains-kinds.r) κs) →
      let answer = chains_answer a.0.now a.1.0.now a.1.1.0.now a.1.1.1.0.now a.1.1.1.1.0.now in
      chains-reads.Post κs a r s
      ≡ ((r ≡ chains_face answer)
      × ((s.1.1.0.now ≡ output_after uppers answer a.1.1.0.now)
      × ((s.1.1.1.0.now ≡ output_after lowers answer a.1.1.1.0.now)
      × (s.1.1.1.1.0.now ≡ scratch_after answer a.1.1.1.1.0.now))))
  pub of_ring : (κs : Lfts 5) (a : Dens κs ring-kinds.ps) (r : CountedC) (s : AtExit (ended_of 5 ring-kinds.ps ring-kinds.r) κs) →
      ring-reads.Post κs a r s
      ≡ RingFace (ring_answer a.0.now a.1.0.now a.1.1.0.now a.1.1.1.0.now a.1.1.1.1.0.now) r a.1.1.0.now s.1.1.0.now
      a.1.1.1.0.now s.1.1.1.0.now a.1.1.1.1.0.now s.1.1.1.1.0.now
  pub of_hand_for : (κs : Lfts 0) (a : Dens κs hand-for-kinds.ps) (r : HandMade) (s : AtExit (ended_of 0 hand-for-kinds.ps hand-for-kinds.r) κs) →
      hand-for-reads.Post κs a r s ≡ (r ≡ made_face (hand_answer a.0))
  pub of_hand_step : (κs : Lfts 0) (a : Dens κs hand-step-kinds.ps) (r : HandStepped) (s : AtExit (ended_of 0 hand-step-kinds.ps hand-step-kinds.r) κs) →
      hand-step-reads.Post κs a r s ≡ (r ≡ stepped_face (hand_step_answer (hand_at a.0)) (hand_at a.0))
  pub of_strongest : (κs : Lfts 2) (a : Dens κs strongest-kinds.ps) (r : StrongestC) (s : AtExit (ended_of 2 strongest-kinds.ps strongest-kinds.r) κs) →
      strongest-reads.Post κs a r s ≡ (r ≡ strongest_face (strongest_answer a.0.now a.1.0.now a.1.1.0 a.1.1.1.0))
  pub of_cover : (κs : Lfts 2) (a : Dens κs cover-kinds.ps) (r : CoverTold) (s : AtExit (ended_of 2 cover-kinds.ps cover-kinds.r) κs) →
      cover-reads.Post κs a r s ≡ (r ≡ cover_face (cover_answer a.0.now a.1.0.now a.1.1.0 a.1.1.1.0))
  pub of_join : (κs : Lfts 7) (a : Dens κs join-kinds.ps) (r : CountedC) (s : AtExit (ended_of 7 join-kinds.ps join-kinds.r) κs) →
      join-reads.Post κs a r s
      ≡ RingFace
      (join_answer a.0.now a.1.0.now a.1.1.0.now a.1.1.1.0.now a.1.1.1.1.0.now a.1.1.1.1.1.0.now a.1.1.1.1.1.1.0.now)
      r a.1.1.1.1.0.now s.1.1.1.1.0.now a.1.1.1.1.1.0.now s.1.1.1.1.1.0.now a.1.1.1.1.1.1.0.now s.1.1.1.1.1.1.0.now
  pub of_sum : (κs : Lfts 7) (a : Dens κs sum-kinds.ps) (r : CountedC) (s : AtExit (ended_of 7 sum-kinds.ps sum-kinds.r) κs) →
      sum-reads.Post κs a r s
      ≡ RingFace
      (sum_answer a.0.now a.1.0.now a.1.1.0.now a.1.1.1.0.now a.1.1.1.1.0.now a.1.1.1.1.1.0.now a.1.1.1.1.1.1.0.now)
      r a.1.1.1.1.0.now s.1.1.1.1.0.now a.1.1.1.1.1.0.now s.1.1.1.1.1.0.now a.1.1.1.1.1.1.0.now s.1.1.1.1.1.1.0.now
  pub of_turn_about : (κs : Lfts 4) (a : Dens κs turn-about-kinds.ps) (r : CountedC) (s : AtExit (ended_of 4 turn-about-kinds.ps turn-about-kinds.r) κs) →
      let answer = turn_answer a.0.now a.1.0.now a.1.1.0.now a.1.1.1.0.now in
      turn-about-reads.Post κs a r s
      ≡ ((r ≡ counted_face answer)
      × ((s.1.1.0.now ≡ output_after parts_east answer a.1.1.0.now)
      × (s.1.1.1.0.now ≡ output_after parts_north answer a.1.1.1.0.now)))
  pub of_part : (κs : Lfts 0) (a : Dens κs part-kinds.ps) (r : PartTaken) (s : AtExit (ended_of 0 part-kinds.ps part-kinds.r) κs) →
      part-reads.Post κs a r s ≡ (r ≡ part_face (part a.0))
  pub of_readings : (κs : Lfts 4) (a : Dens κs readings-kinds.ps) (r : ReadingsTaken) (s : AtExit (ended_of 4 readings-kinds.ps readings-kinds.r) κs) →
      let read = readings 0 a.0.now a.1.0.now in
      let answer = door_answer a.0.now a.1.0.now a.1.1.0.now a.1.1.1.0.now in
      readings-reads.Post κs a r s
      ≡ ((r ≡ readings_face answer)
      × ((s.1.1.0.now ≡ door_output_after (taken_east read) answer a.1.1.0.now)
      × (s.1.1.1.0.now ≡ door_output_after (taken_north read) answer a.1.1.1.0.now)))
  pub of_record : (κs : Lfts 3) (a : Dens κs record-kinds.ps) (r : CountedC) (s : AtExit (ended_of 3 record-kinds.ps record-kinds.r) κs) →
      let answer = record_answer a.0.now a.1.0.now a.1.1.0.now in
      record-reads.Post κs a r s
      ≡ ((r ≡ counted_face answer)
      × ((s.1.0.now ≡ output_after parts_east answer a.1.0.now)
      × (s.1.1.0.now ≡ output_after parts_north answer a.1.1.0.now)))
  pub of_write_record : (κs : Lfts 3) (a : Dens κs write-kinds.ps) (r : CountedC) (s : AtExit (ended_of 3 write-kinds.ps write-kinds.r) κs) →
      let answer = write_answer a.0 a.1.0 a.1.1.0.now a.1.1.1.0.now a.1.1.1.1.0.now in
      write-reads.Post κs a r s ≡ ((r ≡ counted_face answer) × (s.1.1.1.1.0.now ≡ output_after (λ bs. bs) answer a.1.1.1.1.0.now))

pub contracts : Contracts
contracts = record {
  of_pick = λ κs a r s. refl;
  of_round = λ κs a r s. refl;
  of_bridge = λ κs a r s. refl;
  of_chains = λ κs a r s. refl;
  of_ring = λ κs a r s. refl;
  of_hand_for = λ κs a r s. refl;
  of_hand_step = λ κs a r s. refl;
  of_strongest = λ κs a r s. refl;
  of_cover = λ κs a r s. refl;
  of_join = λ κs a r s. refl;
  of_sum = λ κs a r s. refl;
  of_turn_about = λ κs a r s. refl;
  of_part = λ κs a r s. refl;
  of_readings = λ κs a r s. refl;
  of_record = λ κs a r s. refl;
  of_write_record = λ κs a r s. refl;
}
