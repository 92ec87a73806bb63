-- The soundings that the rules mark P, over the promises of the entries: any outcome that an entry's own promise allows is the one that the rules name. The
-- values come from the rules' table `soundings`, computed from the definitions; since the promises cite the same definitions the table holds of the entries, for
-- outputs and scratch of any content that are long enough. That each entry's contract is the promise meant here stands in Contracts.
-- Assumes nothing.
use Rattle.std.specs.Prelude.{◌≡◌, refl, false, not, ◌||◌, Bool, List, [], ◌∷◌, ◌++◌, ℕ, ◌≤◌, ◌+◌, ◌*◌, ℤ, pos, negsuc, ltb, length, drop, replicate, Result, Ok, Err, true}
use Rattle.std.proofs.Common.{sym, ap, ap₂, ◌∙◌, le-ltb}
use Rattle.rules.specs.Lists.{those, some_of, best_from, best, written, zeros}
use Rattle.rules.specs.Streams.{Stream, stream, streams, sample, within, beyond, same, side}
use Rattle.rules.specs.Chain.{leftmost, left_end, furthest_round, next_corner, corners, upper, lower, upper_numbers, lower_numbers}
use Rattle.rules.specs.Ring.{closed, ring}
use Rattle.rules.specs.Bridge.{Bridge}
use Rattle.rules.specs.Round.{Said, round}
use Rattle.rules.specs.Use.{envelope, join, turn_about}
use Rattle.rules.specs.Refusals.{Answer, done, Test, output_short, ring_tests, not_envelope, output_after, scratch_after}
use Rattle.rules.specs.Entries.{Chains, kept_list, easts, norths, counted, ring_short, sample_tests, two_ring_tests, chains_answer, bridge_answer, round_answer, ring_answer, join_answer, turn_answer, strongest_answer, cover_answer}
use Rattle.rules.specs.Soundings.{A_easts, A_norths, A_scratch, A_ring_easts, A_ring_norths, A, A_ring, A_round, tall, flat, three, soundings, outlines, slips}
use Rattle.laws_rings.specs.Rings.{envelope-ring}
use Rattle.laws_rounds.specs.StepsAtMiddle.{no_step_without_bridge}
use Rattle.chains.specs.Promise as chains
use Rattle.bridge.specs.Promise as bridge
use Rattle.round.specs.Promise as rounding
use Rattle.closing.specs.RingPromise.{Outcome}
use Rattle.samples.specs.Answers.{answer_as, answer_of, answer_of_injective}
use Rattle.envelope.specs.UseAnswers.{TurnPromise, strongest_as}
use Rattle.demands.specs.Done.{when_done, not_refused}
use Rattle.demands.specs.AnswerCases.{answer_done, answer_refused, bridge_found, round_found, round-kept, strongest-greatest}
use Rattle.samples.specs.declared.refusals.Refusal.{Refusal}
use Rattle.samples.specs.declared.refusals.Reason.TheVariants.{NotSpanned}
use Rattle.round.specs.declared.turn.Said.{Said as Answered}
use Rattle.round.specs.declared.turn.Said.TheVariants as round-said
use Rattle.envelope.specs.declared.strongest.Greatest.{Greatest}
use Rattle.bridge.specs.declared.Ends.{Ends}
use Rattle.chains.specs.declared.Counts.{Counts}

-- ---- any outcome that a promise allows: what is lent, with room for the result and 16c + 64 words of scratch, what is answered and what is left

-- of chains over A
pub record Chains-of-A : Type 0 where
  pub upper : List ℕ
  pub lower : List ℕ
  pub scratch : List ℕ
  pub upper_room : 3 ≤ length upper
  pub lower_room : 2 ≤ length lower
  pub scratch_room : 176 ≤ length scratch
  pub answer : Result Counts Refusal
  pub upper_left : List ℕ
  pub lower_left : List ℕ
  pub scratch_left : List ℕ
  pub promised : chains.ChainsPromise A_easts A_norths upper lower scratch answer upper_left lower_left scratch_left

-- of the bridge over a of A
pub record Bridge-of-A (a : ℤ) : Type 0 where
  pub scratch : List ℕ
  pub scratch_room : 176 ≤ length scratch
  pub answer : Result Ends Refusal
  pub scratch_left : List ℕ
  pub promised : bridge.BridgePromise A_easts A_norths a scratch answer scratch_left

-- of a round over samples of A, with room for so many kept numbers
pub record Round-of-A (list : List ℕ) (a : ℤ) (room : ℕ) : Type 0 where
  pub output : List ℕ
  pub scratch : List ℕ
  pub output_room : room ≤ length output
  pub scratch_room : 16 * length list + 64 ≤ length scratch
  pub answer : Result Answered Refusal
  pub output_left : List ℕ
  pub scratch_left : List ℕ
  pub promised : rounding.RoundPromise A_easts A_norths list a output scratch answer output_left scratch_left

-- of an entry that answers a ring over two outputs and scratch, with room for so many corners and so much scratch
pub record Ring-of (answers : List ℤ → List ℤ → List ℕ → Answer (List Stream)) (room words : ℕ) : Type 0 where
  pub east : List ℤ
  pub north : List ℤ
  pub scratch : List ℕ
  pub east_room : room ≤ length east
  pub north_room : room ≤ length north
  pub scratch_room : words ≤ length scratch
  pub answer : Result ℕ Refusal
  pub east-left : List ℤ
  pub north-left : List ℤ
  pub scratch_left : List ℕ
  pub promised : Outcome (answers east north scratch) answer east east-left north north-left scratch scratch_left

-- of turning about, with room for so many corners
pub record Turn-of (es ns : List ℤ) (room : ℕ) : Type 0 where
  pub east : List ℤ
  pub north : List ℤ
  pub east_room : room ≤ length east
  pub north_room : room ≤ length north
  pub answer : Result ℕ Refusal
  pub east-left : List ℤ
  pub north-left : List ℤ
  pub promised : TurnPromise es ns east north answer east-left north-left

-- of the strongest set on a course
pub record Strongest-of (es ns : List ℤ) (x y : ℤ) : Type 0 where
  pub answer : Result Greatest Refusal
  pub promised : answer_as strongest_as answer ≡ strongest_answer es ns x y

-- of the cover test
pub record Cover-of (es ns : List ℤ) (x y : ℤ) : Type 0 where
  pub answer : Result Bool Refusal
  pub promised : answer_of answer ≡ cover_answer es ns x y

-- ---- the rings of P9 and P10, as two lists

abbrev pub tall_easts : List ℤ
tall_easts = pos 2 ∷ pos 2 ∷ []

abbrev pub tall_norths : List ℤ
tall_norths = pos 5 ∷ pos 1 ∷ []

abbrev pub flat_easts : List ℤ
flat_easts = pos 0 ∷ pos 4 ∷ []

abbrev pub flat_norths : List ℤ
flat_norths = pos 0 ∷ pos 0 ∷ []

abbrev pub three_easts : List ℤ
three_easts = pos 0 ∷ pos 2 ∷ pos 4 ∷ []

abbrev pub three_norths : List ℤ
three_norths = pos 0 ∷ pos 5 ∷ pos 0 ∷ []

-- ---- THE TABLE (negsuc n is -(n + 1))

pub record Entries-sound : Type 0 where
  pub P1 : (c : Chains-of-A) → (c.answer ≡ Ok (record { upper = 3; lower = 2 })) × (c.upper_left ≡ 3 ∷ 5 ∷ 2 ∷ drop 3 c.upper) × (c.scratch_left ≡ zeros c.scratch)
  pub P2 : (c : Chains-of-A) → (c.answer ≡ Ok (record { upper = 3; lower = 2 })) × (c.lower_left ≡ 0 ∷ 1 ∷ drop 2 c.lower) × (c.scratch_left ≡ zeros c.scratch)
  pub P3 : (c : Bridge-of-A (pos 2)) → (c.answer ≡ Ok (record { left = 5; right = 2 })) × (c.scratch_left ≡ zeros c.scratch)
  pub P4 : (c : Bridge-of-A (pos 1)) → (c.answer ≡ Ok (record { left = 3; right = 5 })) × (c.scratch_left ≡ zeros c.scratch)
  pub P5 : (c : Bridge-of-A (pos 4)) → (c.answer ≡ Err (record { reason = NotSpanned; place = 0 })) × (c.scratch_left ≡ c.scratch)
  pub P6 : (c : Round-of-A (3 ∷ 4 ∷ 5 ∷ 2 ∷ []) (pos 1) 2) →
      (c.answer ≡ Ok (round-said.Kept 2)) × (c.output_left ≡ 3 ∷ 5 ∷ drop 2 c.output) × (c.scratch_left ≡ zeros c.scratch)
  pub P7 : (c : Round-of-A (3 ∷ 4 ∷ 5 ∷ 2 ∷ []) (pos 2) 0) →
      (c.answer ≡ Ok (round-said.Found 5 2)) × (c.output_left ≡ c.output) × (c.scratch_left ≡ zeros c.scratch)
  pub P8 : (c : Round-of-A (3 ∷ 0 ∷ 1 ∷ 2 ∷ []) (pos 2) 2) →
      (c.answer ≡ Ok (round-said.Kept 2)) × (c.output_left ≡ 3 ∷ 2 ∷ drop 2 c.output) × (c.scratch_left ≡ zeros c.scratch)
  pub P9 : (c : Ring-of (join_answer tall_easts tall_norths flat_easts flat_norths) 3 128) →
      (c.answer ≡ Ok 3)
      × (c.east-left ≡ pos 0 ∷ pos 2 ∷ pos 4 ∷ drop 3 c.east)
      × (c.north-left ≡ pos 0 ∷ pos 5 ∷ pos 0 ∷ drop 3 c.north)
      × (c.scratch_left ≡ zeros c.scratch)
  pub P10 : (c : Turn-of three_easts three_norths 3) →
      (c.answer ≡ Ok 3)
      × (c.east-left ≡ negsuc 3 ∷ pos 0 ∷ negsuc 1 ∷ drop 3 c.east)
      × (c.north-left ≡ pos 0 ∷ pos 0 ∷ negsuc 4 ∷ drop 3 c.north)
  pub P11 : (c : Strongest-of A_ring_easts A_ring_norths (negsuc 0) (pos 1)) → c.answer ≡ Ok (record { set = (pos 3); place = 0 })
  pub P12 : (c : Cover-of A_ring_easts A_ring_norths (pos 2) (pos 1)) → c.answer ≡ Ok true

-- ---- the answers, for any outputs and scratch that are long enough

chains_A : (upper lower scratch : List ℕ) → 3 ≤ length upper → 2 ≤ length lower → 176 ≤ length scratch
    → chains_answer A_easts A_norths upper lower scratch ≡ done (record { upper = 3 ∷ 5 ∷ 2 ∷ []; lower = 0 ∷ 1 ∷ [] })
unfolding chains_answer A streams within beyond some_of
chains_A upper lower scratch u l s =
    let long : (ltb (length upper) (length (upper_numbers A)) || ltb (length lower) (length (lower_numbers A))) ≡ false =
    rw (soundings.P1, soundings.P2, le-ltb (length upper) 3 u, le-ltb (length lower) 2 l) refl in
    not_refused
    (sample_tests A_easts A_norths scratch
    ++ (output_short (ltb (length upper) (length (upper_numbers A)) || ltb (length lower) (length (lower_numbers A))) ∷ []))
    (record { upper = upper_numbers A; lower = lower_numbers A })
    (refl, (refl, (refl, (le-ltb (length scratch) 176 s, (no_step_without_bridge A, (long, tt))))))
    ∙ ap₂ (λ (u l : List ℕ). done (record { upper = u; lower = l })) soundings.P1 soundings.P2

bridge-A : (a : ℤ) {answer : Answer (Bridge ℕ)} → bridge_answer A_easts A_norths a A_scratch ≡ answer → (scratch : List ℕ) → 176 ≤ length scratch
    → bridge_answer A_easts A_norths a scratch ≡ answer
unfolding bridge_answer
bridge-A a e scratch h = rw (le-ltb (length scratch) 176 h) e

-- from the output and the scratch of the rules' table to others
round-A : (list : List ℕ) (a : ℤ) {said : Said ℕ} → A_round list a ≡ done said → (output scratch : List ℕ) → length (kept_list said) ≤ length output
    → 16 * length list + 64 ≤ length scratch → round_answer A_easts A_norths list a output scratch ≡ done said
unfolding A_round round_answer
round-A list a {said} e output scratch o s =
    let w = when_done (tests (replicate 4 9) A_scratch) it e in
    let n = w.0.1.1.1 in
    let room = le-ltb (length scratch) (16 * length list + 64) s in
    let long : ltb (length output) (length (kept_list it)) ≡ false = rw w.1 (le-ltb (length output) (length (kept_list said)) o) in
    not_refused (tests output scratch) it
    (refl, (w.0.1.0, (w.0.1.1.0, (n.0, (room, (n.1.1.0, (long, tt)))))))
    ∙ ap done w.1
  where
    it : Said ℕ
    it = round (sample (streams A_easts A_norths)) a list

    tests : List ℕ → List ℕ → List Test
    tests output scratch =
        rounding.round_tests A_easts A_norths list a (length scratch) ++ (output_short (ltb (length output) (length (kept_list it))) ∷ [])

-- a ring that is this one is not too long for outputs that have room for this one
fits : {r q : List Stream} (east north : List ℤ) → r ≡ q → length q ≤ length east → length q ≤ length north → (ring_short east north r).holds ≡ false
fits {q} east north e h k = rw (e, le-ltb (length east) (length q) h, le-ltb (length north) (length q) k) refl

ring-A : (east north : List ℤ) (scratch : List ℕ) → 5 ≤ length east → 5 ≤ length north → 176 ≤ length scratch
    → ring_answer A_easts A_norths east north scratch ≡ done A_ring
unfolding ring_answer A A_ring streams within beyond some_of
ring-A east north scratch h k s =
    not_refused (sample_tests A_easts A_norths scratch ++ (ring_short east north (ring A) ∷ [])) (ring A)
    (refl, (refl, (refl, (le-ltb (length scratch) 176 s, (no_step_without_bridge A, (fits east north slips.with_sides h k, tt))))))
    ∙ ap done slips.with_sides

-- the rings of P9 and P10 are envelopes
rings_of : (ring tall ≡ tall) × (ring flat ≡ flat) × (ring three ≡ three)
unfolding tall flat three those some_of best_from best same side leftmost left_end furthest_round next_corner corners upper lower closed ring
rings_of = (refl, refl, refl)

given_ring : (r : List Stream) → ring r ≡ r → not (envelope r) ≡ false
given_ring r e = ap not ((envelope-ring r).1 e)

three-is : join tall flat ≡ three
three-is = sym (ap₂ join rings_of.0 rings_of.1) ∙ soundings.P9

join-three : (east north : List ℤ) (scratch : List ℕ) → 3 ≤ length east → 3 ≤ length north → 128 ≤ length scratch
    → join_answer tall_easts tall_norths flat_easts flat_norths east north scratch ≡ done three
unfolding join_answer tall flat three streams within beyond some_of
join-three east north scratch h k s =
    let tall_ring = given_ring tall rings_of.0 in
    let flat_ring = given_ring flat rings_of.1 in
    let room = le-ltb (length scratch) 128 s in
    not_refused
    (two_ring_tests tall_easts tall_norths flat_easts flat_norths scratch ++ (ring_short east north (join tall flat) ∷ []))
    (join tall flat)
    (refl, (refl, (refl, (tall_ring, (refl, (refl, (refl, (flat_ring, (refl, (room, (fits east north three-is h k, tt)))))))))))
    ∙ ap done three-is

three-turned : (east north : List ℤ) → 3 ≤ length east → 3 ≤ length north
    → turn_answer three_easts three_norths east north
    ≡ done (stream (negsuc 3) (pos 0) ∷ stream (pos 0) (pos 0) ∷ stream (negsuc 1) (negsuc 4) ∷ [])
unfolding turn_answer three streams within beyond some_of
three-turned east north h k =
    not_refused
    (ring_tests three_easts three_norths
    ++ (not_envelope three_easts three_norths ∷ ring_short east north (turn_about three) ∷ []))
    (turn_about three)
    (refl, (refl, (refl, (given_ring three rings_of.2, (fits east north soundings.P10 h k, tt)))))
    ∙ ap done soundings.P10

-- ---- the proof

chains_of : (c : Chains-of-A) →
    (c.answer ≡ Ok (record { upper = 3; lower = 2 }))
    × (c.upper_left ≡ 3 ∷ 5 ∷ 2 ∷ drop 3 c.upper)
    × (c.lower_left ≡ 0 ∷ 1 ∷ drop 2 c.lower)
    × (c.scratch_left ≡ zeros c.scratch)
chains_of c =
    let e = chains_A c.upper c.lower c.scratch c.upper_room c.lower_room c.scratch_room in (
      answer_done c.answer (c.promised.said ∙ ap chains.counted e),
      c.promised.upper_is ∙ ap (λ (t : Answer Chains). output_after (λ s. s.upper) t c.upper) e,
      c.promised.lower-is ∙ ap (λ (t : Answer Chains). output_after (λ s. s.lower) t c.lower) e,
      c.promised.scratch-is ∙ ap (λ (t : Answer Chains). scratch_after t c.scratch) e,
    )

bridge_of : {a : ℤ} (c : Bridge-of-A a) {answer : Answer (Bridge ℕ)} → bridge_answer A_easts A_norths a A_scratch ≡ answer →
    (answer_as bridge.ends_of c.answer ≡ answer) × (c.scratch_left ≡ scratch_after answer c.scratch)
bridge_of {a} c e =
    let h = bridge-A a e c.scratch c.scratch_room in
    (c.promised.answer ∙ h, c.promised.scratch-is ∙ ap (λ (t : Answer (Bridge ℕ)). scratch_after t c.scratch) h)

round_of : {list : List ℕ} {a : ℤ} {room : ℕ} (c : Round-of-A list a room) {said : Said ℕ} → A_round list a ≡ done said → length (kept_list said) ≡ room →
    (answer_as rounding.told_by c.answer ≡ done (rounding.told said))
    × (c.output_left ≡ written (kept_list said) c.output)
    × (c.scratch_left ≡ zeros c.scratch)
round_of {list} {a} c {said} e h =
    let r = round-A list a e c.output c.scratch (rw h c.output_room) c.scratch_room in (
      c.promised.answer ∙ ap rounding.telling r,
      c.promised.output_is ∙ ap (λ (t : Answer (Said ℕ)). output_after kept_list t c.output) r,
      c.promised.scratch-is ∙ ap (λ (t : Answer (Said ℕ)). scratch_after t c.scratch) r,
    )

ring_of : {answers : List ℤ → List ℤ → List ℕ → Answer (List Stream)} {room words : ℕ} (c : Ring-of answers room words) {r : List Stream} →
    answers c.east c.north c.scratch ≡ done r →
    (c.answer ≡ Ok (length r))
    × (c.east-left ≡ written (easts r) c.east)
    × (c.north-left ≡ written (norths r) c.north)
    × (c.scratch_left ≡ zeros c.scratch)
ring_of c {r} e = (
  answer_of_injective c.answer (Ok (length r)) (c.promised.says ∙ ap counted e),
  c.promised.east_after ∙ ap (λ (t : Answer (List Stream)). output_after easts t c.east) e,
  c.promised.north_after ∙ ap (λ (t : Answer (List Stream)). output_after norths t c.north) e,
  c.promised.scratch-is ∙ ap (λ (t : Answer (List Stream)). scratch_after t c.scratch) e,
)

pub entries_sound : Entries-sound
unfolding three
entries_sound = record {
  P1 = λ c. let o = chains_of c in (o.0, o.1, o.3);
  P2 = λ c. let o = chains_of c in (o.0, o.2, o.3);
  P3 = λ c. let o = bridge_of c soundings.P3 in (bridge_found c.answer o.0, o.1);
  P4 = λ c. let o = bridge_of c soundings.P4 in (bridge_found c.answer o.0, o.1);
  P5 = λ c. let o = bridge_of c soundings.P5 in (answer_refused bridge.ends_of c.answer NotSpanned o.0, o.1);
  P6 = λ c. let o = round_of c soundings.P6 refl in (round-kept c.answer o.0, o.1, o.2);
  P7 = λ c. let o = round_of c soundings.P7 refl in (round_found c.answer o.0, o.1, o.2);
  P8 = λ c. let o = round_of c soundings.P8 refl in (round-kept c.answer o.0, o.1, o.2);
  P9 = λ c. ring_of c (join-three c.east c.north c.scratch c.east_room c.north_room c.scratch_room);
  P10 = λ c.
      let e = three-turned c.east c.north c.east_room c.north_room in (
        answer_of_injective c.answer (Ok 3) (c.promised.answer ∙ ap counted e),
        c.promised.east_after ∙ ap (λ (t : Answer (List Stream)). output_after easts t c.east) e,
        c.promised.north_after ∙ ap (λ (t : Answer (List Stream)). output_after norths t c.north) e,
      );
  P11 = λ c. strongest-greatest c.answer (c.promised ∙ soundings.P11);
  P12 = λ c. answer_done c.answer (c.promised ∙ soundings.P12);
}

-- the ring of A, off which P11 and P12 are read
pub A-ring-written : (c : Ring-of (ring_answer A_easts A_norths) 5 176) →
    (c.answer ≡ Ok 5)
    × (c.east-left ≡ pos 0 ∷ pos 2 ∷ pos 4 ∷ pos 4 ∷ pos 0 ∷ drop 5 c.east)
    × (c.north-left ≡ pos 3 ∷ pos 5 ∷ pos 3 ∷ pos 0 ∷ pos 0 ∷ drop 5 c.north)
    × (c.scratch_left ≡ zeros c.scratch)
unfolding A_ring
A-ring-written c = ring_of c (ring-A c.east c.north c.scratch c.east_room c.north_room c.scratch_room)

-- (0,1), on the outline of A, is covered
pub A_outline_covered : (c : Cover-of A_ring_easts A_ring_norths (pos 0) (pos 1)) → c.answer ≡ Ok true
A_outline_covered c = answer_done c.answer (c.promised ∙ outlines.on_A)
