-- The answer of a round from what it has said, and its promise from the tests.
-- Assumes nothing.
use Rattle.std.specs.Prelude.{◌≡◌, ℕ, ◌+◌, ◌*◌, ◌≤◌, Bool, true, false, cond, eqb, ltb, List, [], ◌∷◌, map, length, take, drop, replicate, ℤ, Result, Err}
use mathlib.Core.Path.{refl, sym, ap, ap₂, ◌∙◌, subst}
use native.Mathlib.Omega.{arith}
use borrow.Author.Tests.{ltb-false, eqb-true, not-false}
use lib.ListN.{length-append, length-drop, length-map}
use lib.Seq.{take-append_seam}
use Rattle.rules.specs.Lists.{zeros, written}
use Rattle.rules.specs.Streams.{Stream, streams, sample}
use Rattle.rules.specs.Bridge.{spans}
use Rattle.rules.specs.Round as rules
use Rattle.rules.specs.Refusals.{Answer, refused, done, unless, output_short, output_after, scratch_after}
use Rattle.rules.specs.Entries.{kept_list, round_answer}
use Rattle.samples.specs.Positions.{at, Sampled, Listed}
use Rattle.samples.specs.Samples.{sampled, listed, samples-at, spans-two}
use Rattle.samples.specs.Answers.{number_of}
use Rattle.samples.specs.InOrder.{then_answer, passed_tests, answer_by, quiet-scratch}
use Rattle.samples.specs.declared.refusals.Refusal.{Refusal}
use Rattle.round.specs.declared.turn.Said.{Said}
use Rattle.round.specs.Saying.{said_as, RoundAsks, RoundSays}
use Rattle.round.specs.Promise.{telling, output_answer, round_tests, Answered, RoundPromise}

-- in either case the scratch is left zero
left-zero : (s : rules.Said ℕ) (output scratch : List ℕ) → scratch_after (output_answer s output) scratch ≡ zeros scratch
left-zero s output scratch = go (ltb (length output) (length (kept_list s)))
  where
    go : (b : Bool) → scratch_after (cond b (refused 5 0) (done s)) scratch ≡ zeros scratch
    go true = refl
    go false = refl

-- what comes of the tests before 5
abbrev pub said_of_tests : List ℤ → List ℤ → List ℕ → ℤ → ℕ → Answer (Unit {0})
said_of_tests es ns list a room = unless (round_tests es ns list a room) tt

-- ---- the promise

module _ (es ns : List ℤ) (list : List ℕ) (a : ℤ) (output scratch : List ℕ) where
  abbrev said_here : rules.Said ℕ
  said_here = rules.round (sample (streams es ns)) a list

  -- the tests before 5, then the test for 5
  by_tests : {t : Answer (Unit {0})} → said_of_tests es ns list a (length scratch) ≡ t → round_answer es ns list a output scratch ≡ then_answer t (output_answer said_here output)
  unfolding round_answer
  by_tests e =
      answer_by (round_tests es ns list a (length scratch)) (output_short (ltb (length output) (length (kept_list said_here))) ∷ []) said_here (tt {0}) e

  pub refused_promise : {r : Refusal} → said_of_tests es ns list a (length scratch) ≡ refused (number_of r.reason) r.place
      → RoundPromise es ns list a output scratch (Err r) output scratch
  refused_promise e =
      let ts = round_tests es ns list a (length scratch) in
      let r = by_tests e in
      record {
        answer = sym (ap telling r);
        output_is = sym (ap (λ (x : Answer (rules.Said ℕ)). output_after kept_list x output) r);
        scratch-is = sym (ap (λ (x : Answer (rules.Said ℕ)). scratch_after x scratch) r ∙ quiet-scratch (tt {0}) ts tt e scratch);
      }

  pub passed_promise : said_of_tests es ns list a (length scratch) ≡ done tt
      → (s : Said) (w : List ℕ) → length w ≡ length scratch → said_as s w ≡ said_here
      → {r : Result Said Refusal} {output_left scratch_left : List ℕ} → Answered s output w r output_left scratch_left
      → RoundPromise es ns list a output scratch r output_left scratch_left
  passed_promise e s w long is h =
      let r = by_tests e in
      let same = ap (λ (x : rules.Said ℕ). output_answer x output) is ∙ sym r in
      record {
        answer = h.answer ∙ ap telling same;
        output_is = h.output_is ∙ ap (λ (x : Answer (rules.Said ℕ)). output_after kept_list x output) same;
        scratch-is =
            h.scratch-is
            ∙ left-zero (said_as s w) output w
            ∙ ap (λ (n : ℕ). replicate n 0) long
            ∙ sym (left-zero said_here output scratch)
            ∙ sym (ap (λ (x : Answer (rules.Said ℕ)). scratch_after x scratch) r);
      }

-- ---- the list in scratch

-- what passed tests show
pub record Ready (es ns : List ℤ) (list : List ℕ) (room : ℕ) : Type 0 where
  pub sampled : Sampled es ns
  pub is-listed : Listed (length es) list
  pub two : 2 ≤ length list
  pub large : 16 * length list + 64 ≤ room

pub ready : (es ns : List ℤ) (list : List ℕ) (a : ℤ) (room : ℕ) → said_of_tests es ns list a room ≡ done tt → Ready es ns list room
ready es ns list a room e =
    let n = passed_tests (tt {0}) (round_tests es ns list a room) e in
    let spanned = not-false (spans a (map (sample (streams es ns)) list)) n.1.1.1.1.1.0 in
    record {
      sampled = sampled es ns (eqb-true (length es) (length ns) (not-false (eqb (length es) (length ns)) n.0)) n.1.1.0;
      is-listed = listed (length es) list n.1.1.1.0;
      two = omega (arith, spans-two a (map (sample (streams es ns)) list) spanned, length-map list (sample (streams es ns)));
      large = ltb-false room (16 * length list + 64) n.1.1.1.1.0;
    }

module _ (scratch : List ℕ) {es ns : List ℤ} {list : List ℕ} (r : Ready es ns list (length scratch)) {w : List ℕ} (e : w ≡ written list scratch) where
  in_front : take (length list) w ≡ list
  in_front = ap (take (length list)) e ∙ take-append_seam list (drop (length list) scratch)

  pub as_long : length w ≡ length scratch
  as_long =
      let large = r.large in
      ap length e ∙ length-append list (drop (length list) scratch) ∙ (let l = length-drop (length list) scratch in omega arith)

  pub round_asks : RoundAsks (length es) w (length list)
  round_asks =
      let large = r.large in
      record {
        listed = subst (Listed (length es)) (sym in_front) r.is-listed;
        two = r.two;
        room = omega (arith, as_long);
      }

  pub round-here : (a : ℤ) {s : Said} {left : List ℕ} → RoundSays (at es ns false) a w (length list) s left
      → said_as s left ≡ rules.round (sample (streams es ns)) a list
  round-here a h =
      h.is
      ∙ ap₂ (λ (f : ℕ → Stream) (l : List ℕ). rules.round f a l) (sym (samples-at es ns r.sampled.even)) in_front
