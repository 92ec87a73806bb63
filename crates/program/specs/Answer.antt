-- The ring entry on the samples of a text, with lists of the program's sizes: of its tests only 3 can hold, so its answer is the rules' for the text.
-- Assumes nothing.
use Rattle.std.specs.Prelude.{◌≡◌, Result, Ok, Err, Bool, true, false, cond, List, ℕ, ◌+◌, ◌*◌, ◌≤◌, ℤ}
use Rattle.std.proofs.Math.Path.{refl}
use Rattle.std.proofs.Common.{sym, ap, ◌∙◌, subst, arith}
use borrow.Author.Tests.{le-ltb, eq-eqb}
use Rattle.std.proofs.Math.ListN.{length}
use Rattle.rules.specs.Lists.{some_of, first_place}
use Rattle.rules.specs.Streams.{Stream, streams, most, beyond}
use Rattle.rules.specs.Ring.{ring}
use Rattle.rules.specs.Refusals.{Answer, refused, done, output_after}
use Rattle.rules.specs.Entries.{easts, norths, ring_answer, counted}
use Rattle.rules.specs.Program.{most_lines, samples, ring_of_text, printed}
use Rattle.laws_rounds.specs.StepsAtMiddle.{no_step_without_bridge}
use Rattle.samples.specs.Samples.{streams-length}
use Rattle.text.specs.TextAnswers as text
use Rattle.text.specs.TextLines.{room_for_all, samples_few}
use Rattle.samples.specs.Answers.{number_of, answer_of}
use Rattle.samples.specs.declared.refusals.Refusal.{Refusal}
use Rattle.closing.specs.RingPromise.{Outcome}
use Rattle.program.specs.Room.{ring_few, ring_of_samples_room}
use Rattle.program.specs.Told.{told_refused, Told, told}

-- ---- the ring

few_corners : (es ns : List ℤ) → length es ≡ length ns → length es ≤ 512 → length (ring (streams es ns)) ≤ 1024
few_corners es ns even few = omega (arith, ring_few (streams es ns), streams-length es ns even)

module _ (es ns east north : List ℤ) (scratch : List ℕ) (even : length es ≡ length ns) (few : length es ≤ 512) where
  ring-answers : 1024 ≤ length east → 1024 ≤ length north → 8256 ≤ length scratch →
      ring_answer es ns east north scratch ≡ ring_of_text (done (streams es ns))
  unfolding ring_answer
  ring-answers e n s =
      simp (
        eq-eqb (length es) (length ns) even,
        le-ltb most (length es) (omega arith),
        le-ltb (length scratch) (16 * length es + 64) (omega arith),
        no_step_without_bridge (streams es ns),
        le-ltb (length east) (length (ring (streams es ns))) (omega (arith, few_corners es ns even few)),
        le-ltb (length north) (length (ring (streams es ns))) (omega (arith, few_corners es ns even few)),
      )
      refl

-- a text's answer that is done is the ring
done_ring : (xs all : List Stream) → ring_of_text (done xs) ≡ done all → all ≡ ring xs
done_ring xs all = go (some_of beyond xs)
  where
    go : (b : Bool) → cond b (refused 3 (first_place beyond xs)) (done (ring xs)) ≡ done all → all ≡ ring xs
    go true e = let z : ◌≡◌ {A = ℕ} 0 1 = cc in absurd (omega arith)
    go false e = cc

-- what comes of the entry
module _ (es ns : List ℤ) {east east' north north' : List ℤ} {scratch scratch' : List ℕ} {r : Result ℕ Refusal}
    (o : Outcome (ring_answer es ns east north scratch) r east east' north north' scratch scratch') (even : length es ≡ length ns)
    (few : length es ≤ 512) (e : 1024 ≤ length east) (n : 1024 ≤ length north) (s : 8256 ≤ length scratch) where
  answers : ring_answer es ns east north scratch ≡ ring_of_text (done (streams es ns))
  answers = ring-answers es ns east north scratch even few e n s

  pub ring_refused : (k : Refusal) → r ≡ Err k → ring_of_text (done (streams es ns)) ≡ refused (number_of k.reason) k.place
  ring_refused k q =
      sym answers ∙ told_refused (ring_answer es ns east north scratch) (number_of k.reason) k.place (sym (ap answer_of q) ∙ o.says)

  pub ring-told : (m : ℕ) → r ≡ Ok m → Told (ring_of_text (done (streams es ns))) m east' north'
  ring-told m q =
      subst (λ (a : Answer (List Stream)). Told a m east' north') answers
      (told (ring_answer es ns east north scratch) east east' north north' m o.east_after o.north_after (sym (ap answer_of q) ∙ o.says))

module _ (es ns : List ℤ) (even : length es ≡ length ns) (few : length es ≤ 512) where
  pub ring-count : {m : ℕ} {east north : List ℤ} → Told (ring_of_text (done (streams es ns))) m east north → m ≤ 1024
  ring-count t = omega (arith, few_corners es ns even few, t.many, ap length (done_ring (streams es ns) t.all t.is_done))

  pub printed_few : length (printed (ring_of_text (done (streams es ns)))) ≤ 18442
  printed_few = ring_of_samples_room (streams es ns) (omega (arith, streams-length es ns even))

-- ---- the text

-- what comes of reading a text into lists of as many places as it can have samples
module _ (bs : List ℕ) (east east' north north' : List ℤ) (e : most_lines ≤ length east) (n : most_lines ≤ length north) (r : Result ℕ Refusal)
    (says : answer_of r ≡ counted (text.samples_answer bs east north)) where
  reads : answer_of r ≡ counted (samples bs)
  reads = says ∙ ap counted (room_for_all bs east north e n)

  pub text_refused : (k : Refusal) → r ≡ Err k → samples bs ≡ refused (number_of k.reason) k.place
  text_refused k q = told_refused (samples bs) (number_of k.reason) k.place (sym (ap answer_of q) ∙ reads)

  pub text-told : east' ≡ output_after easts (text.samples_answer bs east north) east →
      north' ≡ output_after norths (text.samples_answer bs east north) north →
      (m : ℕ) → r ≡ Ok m → Told (samples bs) m east' north'
  text-told a b m q =
      let s = room_for_all bs east north e n in
      told (samples bs) east east' north north' m (rw s at a) (rw s at b) (sym (ap answer_of q) ∙ reads)

pub text-count : (bs : List ℕ) {m : ℕ} {east north : List ℤ} → Told (samples bs) m east north → m ≤ 512
text-count bs t = omega (arith, samples_few bs t.all t.is_done, t.many)
