-- The contract of each entry is the promise that its specs state, which cites the rules' answer: of what is given (a), what is answered (r), and what is left
-- of all that is lent (s). A contract of several equations is their product. The C face and the program have theirs in a `Contracts` of their own, as no other
-- crate can name their functions. Assumes nothing.
use Rattle.std.specs.Prelude.{◌≡◌, refl, Bool, ℕ, ℤ, length, Result}
use contract.Lifetimes.{Lfts}
use denote.Triple.Clauses.{AtExit}
use borrow.Fn.Kinds.{Dens, ended_of}
use Rattle.rules.specs.Lists.{written}
use Rattle.rules.specs.Streams.{streams}
use Rattle.rules.specs.Refusals.{refused, done, output_after}
use Rattle.rules.specs.Door.{part, readings}
use Rattle.rules.specs.Program.{printed}
use Rattle.rules.specs.Entries.{ring_answer, join_answer, sum_answer, strongest_answer, cover_answer, hand_answer, hand_step_answer, hand_after, door_answer, door_output_after, taken_east, taken_north, record_answer, write_answer, counted, easts, norths}
use Rattle.picker.specs.Promise.{PickPromise}
use Rattle.chains.specs.Promise.{ChainsPromise}
use Rattle.bridge.specs.Promise.{BridgePromise}
use Rattle.round.specs.Promise.{RoundPromise}
use Rattle.closing.specs.RingPromise.{Outcome}
use Rattle.samples.specs.Answers.{answer_as, answer_of}
use Rattle.envelope.specs.UseAnswers.{TurnPromise, strongest_as}
use Rattle.hand.specs.HandAnswers.{hand_at, edge_as}
use Rattle.hand.specs.declared.Step.{Step}
use Rattle.door.specs.DoorAnswers.{part_as, door_as}
use Rattle.door.specs.declared.PartAnswer.{PartAnswer}
use Rattle.door.specs.declared.DoorRefusal.{DoorRefusal}
use Rattle.text.specs.TextAnswers.{samples_answer}
use Rattle.picker.proofs.pick.Kinds as pick-kinds
use Rattle.picker.proofs.pick.Reads as pick-reads
use Rattle.chains.proofs.chains.Kinds as chains-kinds
use Rattle.chains.proofs.chains.Reads as chains-reads
use Rattle.bridge.proofs.bridge.Kinds as bridge-kinds
use Rattle.bridge.proofs.bridge.Reads as bridge-reads
use Rattle.round.proofs.round.Kinds as round-kinds
use Rattle.round.proofs.round.Reads as round-reads
use Rattle.ring.proofs.ring.Kinds as ring-kinds
use Rattle.ring.proofs.ring.Reads as ring-reads
use Rattle.join.proofs.join.Kinds as join-kinds
use Rattle.join.proofs.join.Reads as join-reads
use Rattle.sum.proofs.sum.Kinds as sum-kinds
use Rattle.sum.proofs.sum.Reads as sum-reads
use Rattle.envelope.proofs.turn.turn_about.Kinds as turn-kinds
use Rattle.envelope.proofs.turn.turn_about.Reads as turn-reads
use Rattle.envelope.proofs.strongest.strongest.Kinds as strongest-kinds
use Rattle.envelope.proofs.strongest.strongest.Reads as strongest-reads
use Rattle.envelope.proofs.cover.cover.Kinds as cover-kinds
use Rattle.envelope.proofs.cover.cover.Reads as cover-reads
use Rattle.hand.proofs.Hand.made_for.Kinds as made-kinds
use Rattle.hand.proofs.Hand.made_for.Reads as made_reads
use Rattle.hand.proofs.Hand.step.Kinds as step-kinds
use Rattle.hand.proofs.Hand.step.Reads as step-reads
use Rattle.door.proofs.part.Kinds as part-kinds
use Rattle.door.proofs.part.Reads as part-reads
use Rattle.door.proofs.take_readings.Kinds as readings-kinds
use Rattle.door.proofs.take_readings.Reads as readings-reads
use Rattle.reader.proofs.read_record.Kinds as record-kinds
use Rattle.reader.proofs.read_record.Reads as record-reads
use Rattle.writer.proofs.write_record.Kinds as write-kinds
use Rattle.writer.proofs.write_record.Reads as write-reads
use Rattle.text.proofs.reading.samples.Kinds as samples-kinds
use Rattle.text.proofs.reading.samples.Reads as samples-reads
use Rattle.text.proofs.printing.print_ring.Kinds as print-ring-kinds
use Rattle.text.proofs.printing.print_ring.Reads as print-ring-reads
use Rattle.text.proofs.printing.print_refusal.Kinds as print-refusal-kinds
use Rattle.text.proofs.printing.print_refusal.Reads as print-refusal-reads
use Rattle.samples.specs.declared.refusals.Refusal.{Refusal}
use Rattle.envelope.specs.declared.strongest.Greatest.{Greatest}
use Rattle.round.specs.declared.turn.Said.{Said}
use Rattle.bridge.specs.declared.Ends.{Ends}
use Rattle.chains.specs.declared.Counts.{Counts}
use Rattle.hand.specs.declared.Hand.{Hand}

pub record Contracts : Type 1 where
  pub of_pick : (κs : Lfts 2) (a : Dens κs pick-kinds.ps) (r : Result ℤ Refusal) (s : AtExit (ended_of 2 pick-kinds.ps pick-kinds.r) κs) →
      pick-reads.Post κs a r s ≡ PickPromise a.0.now a.1.0 a.1.1.0.now r s.1.1.0.now
  pub of_chains : (κs : Lfts 5) (a : Dens κs chains-kinds.ps) (r : Result Counts Refusal) (s : AtExit (ended_of 5 chains-kinds.ps chains-kinds.r) κs) →
      chains-reads.Post κs a r s
      ≡ ChainsPromise a.0.now a.1.0.now a.1.1.0.now a.1.1.1.0.now a.1.1.1.1.0.now r
      s.1.1.0.now s.1.1.1.0.now s.1.1.1.1.0.now
  pub of_bridge : (κs : Lfts 3) (a : Dens κs bridge-kinds.ps) (r : Result Ends Refusal) (s : AtExit (ended_of 3 bridge-kinds.ps bridge-kinds.r) κs) →
      bridge-reads.Post κs a r s ≡ BridgePromise a.0.now a.1.0.now a.1.1.0 a.1.1.1.0.now r s.1.1.1.0.now
  pub of_round : (κs : Lfts 5) (a : Dens κs round-kinds.ps) (r : Result Said Refusal) (s : AtExit (ended_of 5 round-kinds.ps round-kinds.r) κs) →
      round-reads.Post κs a r s
      ≡ RoundPromise a.0.now a.1.0.now a.1.1.0.now a.1.1.1.0 a.1.1.1.1.0.now a.1.1.1.1.1.0.now r
      s.1.1.1.1.0.now s.1.1.1.1.1.0.now
  pub of_ring : (κs : Lfts 5) (a : Dens κs ring-kinds.ps) (r : Result ℕ Refusal) (s : AtExit (ended_of 5 ring-kinds.ps ring-kinds.r) κs) →
      ring-reads.Post κs a r s
      ≡ Outcome (ring_answer a.0.now a.1.0.now a.1.1.0.now a.1.1.1.0.now a.1.1.1.1.0.now) r
      a.1.1.0.now s.1.1.0.now a.1.1.1.0.now s.1.1.1.0.now a.1.1.1.1.0.now s.1.1.1.1.0.now
  pub of_join : (κs : Lfts 7) (a : Dens κs join-kinds.ps) (r : Result ℕ Refusal) (s : AtExit (ended_of 7 join-kinds.ps join-kinds.r) κs) →
      join-reads.Post κs a r s
      ≡ Outcome
      (join_answer a.0.now a.1.0.now a.1.1.0.now a.1.1.1.0.now a.1.1.1.1.0.now a.1.1.1.1.1.0.now
      a.1.1.1.1.1.1.0.now) r
      a.1.1.1.1.0.now s.1.1.1.1.0.now a.1.1.1.1.1.0.now s.1.1.1.1.1.0.now
      a.1.1.1.1.1.1.0.now s.1.1.1.1.1.1.0.now
  pub of_sum : (κs : Lfts 7) (a : Dens κs sum-kinds.ps) (r : Result ℕ Refusal) (s : AtExit (ended_of 7 sum-kinds.ps sum-kinds.r) κs) →
      sum-reads.Post κs a r s
      ≡ Outcome
      (sum_answer a.0.now a.1.0.now a.1.1.0.now a.1.1.1.0.now a.1.1.1.1.0.now a.1.1.1.1.1.0.now
      a.1.1.1.1.1.1.0.now) r
      a.1.1.1.1.0.now s.1.1.1.1.0.now a.1.1.1.1.1.0.now s.1.1.1.1.1.0.now
      a.1.1.1.1.1.1.0.now s.1.1.1.1.1.1.0.now
  pub of_turn_about : (κs : Lfts 4) (a : Dens κs turn-kinds.ps) (r : Result ℕ Refusal) (s : AtExit (ended_of 4 turn-kinds.ps turn-kinds.r) κs) →
      turn-reads.Post κs a r s
      ≡ TurnPromise a.0.now a.1.0.now a.1.1.0.now a.1.1.1.0.now r s.1.1.0.now s.1.1.1.0.now
  pub of_strongest : (κs : Lfts 2) (a : Dens κs strongest-kinds.ps) (r : Result Greatest Refusal) (s : AtExit (ended_of 2 strongest-kinds.ps strongest-kinds.r) κs) →
      strongest-reads.Post κs a r s ≡ (answer_as strongest_as r ≡ strongest_answer a.0.now a.1.0.now a.1.1.0 a.1.1.1.0)
  pub of_cover : (κs : Lfts 2) (a : Dens κs cover-kinds.ps) (r : Result Bool Refusal) (s : AtExit (ended_of 2 cover-kinds.ps cover-kinds.r) κs) →
      cover-reads.Post κs a r s ≡ (answer_of r ≡ cover_answer a.0.now a.1.0.now a.1.1.0 a.1.1.1.0)
  pub of_made_for : (κs : Lfts 0) (a : Dens κs made-kinds.ps) (r : Result Hand Refusal) (s : AtExit (ended_of 0 made-kinds.ps made-kinds.r) κs) →
      made_reads.Post κs a r s ≡ (answer_as hand_at r ≡ hand_answer a.0)
  pub of_step : (κs : Lfts 0) (a : Dens κs step-kinds.ps) (r : Step) (s : AtExit (ended_of 0 step-kinds.ps step-kinds.r) κs) →
      step-reads.Post κs a r s
      ≡ ((answer_as edge_as r.edge ≡ hand_step_answer (hand_at a.0))
      × (hand_at r.next ≡ hand_after (hand_step_answer (hand_at a.0)) (hand_at a.0)))
  pub of_part : (κs : Lfts 0) (a : Dens κs part-kinds.ps) (r : PartAnswer) (s : AtExit (ended_of 0 part-kinds.ps part-kinds.r) κs) →
      part-reads.Post κs a r s ≡ (part_as r ≡ part a.0)
  pub of_take_readings :
      (κs : Lfts 4) (a : Dens κs readings-kinds.ps) (r : Result ℕ DoorRefusal) (s : AtExit (ended_of 4 readings-kinds.ps readings-kinds.r) κs) →
      let answer = door_answer a.0.now a.1.0.now a.1.1.0.now a.1.1.1.0.now in
      let read = readings 0 a.0.now a.1.0.now in
      readings-reads.Post κs a r s
      ≡ ((door_as r ≡ answer)
      × ((s.1.1.0.now ≡ door_output_after (taken_east read) answer a.1.1.0.now)
      × (s.1.1.1.0.now ≡ door_output_after (taken_north read) answer a.1.1.1.0.now)))
  pub of_read_record : (κs : Lfts 3) (a : Dens κs record-kinds.ps) (r : Result ℕ Refusal) (s : AtExit (ended_of 3 record-kinds.ps record-kinds.r) κs) →
      let answer = record_answer a.0.now a.1.0.now a.1.1.0.now in
      record-reads.Post κs a r s
      ≡ ((answer_of r ≡ counted answer)
      × ((s.1.0.now ≡ output_after easts answer a.1.0.now) × (s.1.1.0.now ≡ output_after norths answer a.1.1.0.now)))
  pub of_write_record : (κs : Lfts 3) (a : Dens κs write-kinds.ps) (r : Result ℕ Refusal) (s : AtExit (ended_of 3 write-kinds.ps write-kinds.r) κs) →
      let answer = write_answer a.0 a.1.0 a.1.1.0.now a.1.1.1.0.now a.1.1.1.1.0.now in
      write-reads.Post κs a r s
      ≡ ((answer_of r ≡ counted answer) × (s.1.1.1.1.0.now ≡ output_after (λ bs. bs) answer a.1.1.1.1.0.now))
  pub of_samples : (κs : Lfts 3) (a : Dens κs samples-kinds.ps) (r : Result ℕ Refusal) (s : AtExit (ended_of 3 samples-kinds.ps samples-kinds.r) κs) →
      let answer = samples_answer a.0.now a.1.0.now a.1.1.0.now in
      samples-reads.Post κs a r s
      ≡ ((answer_of r ≡ counted answer)
      × ((s.1.0.now ≡ output_after easts answer a.1.0.now) × (s.1.1.0.now ≡ output_after norths answer a.1.1.0.now)))
  pub of_print_ring : (κs : Lfts 3) (a : Dens κs print-ring-kinds.ps) (r : ℕ) (s : AtExit (ended_of 3 print-ring-kinds.ps print-ring-kinds.r) κs) →
      let text = printed (done (streams a.0.now a.1.0.now)) in
      print-ring-reads.Post κs a r s ≡ ((r ≡ length text) × (s.1.1.0.now ≡ written text a.1.1.0.now))
  pub of_print_refusal : (κs : Lfts 1) (a : Dens κs print-refusal-kinds.ps) (r : ℕ) (s : AtExit (ended_of 1 print-refusal-kinds.ps print-refusal-kinds.r) κs) →
      let text = printed (refused a.0 a.1.0) in
      print-refusal-reads.Post κs a r s ≡ ((r ≡ length text) × (s.1.1.0.now ≡ written text a.1.1.0.now))

pub contracts : Contracts
contracts = record {
  of_pick = λ κs a r s. refl;
  of_chains = λ κs a r s. refl;
  of_bridge = λ κs a r s. refl;
  of_round = λ κs a r s. refl;
  of_ring = λ κs a r s. refl;
  of_join = λ κs a r s. refl;
  of_sum = λ κs a r s. refl;
  of_turn_about = λ κs a r s. refl;
  of_strongest = λ κs a r s. refl;
  of_cover = λ κs a r s. refl;
  of_made_for = λ κs a r s. refl;
  of_step = λ κs a r s. refl;
  of_part = λ κs a r s. refl;
  of_take_readings = λ κs a r s. refl;
  of_read_record = λ κs a r s. refl;
  of_write_record = λ κs a r s. refl;
  of_samples = λ κs a r s. refl;
  of_print_ring = λ κs a r s. refl;
  of_print_refusal = λ κs a r s. refl;
}
