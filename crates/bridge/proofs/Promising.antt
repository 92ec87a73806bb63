-- The promise of the bridge, from its tests and from what the rounds find.
-- Assumes nothing.
use Rattle.std.specs.Prelude.{◌≡◌, ℕ, zero, suc, ◌+◌, ◌*◌, ◌<◌, ◌≤◌, true, false, eqb, ◌⊎◌, List, [], map, length, take, replicate, ℤ, Result, Ok}
use mathlib.Core.Path.{sym, ap, ◌∙◌, subst, subst₂}
use mathlib.Core.Option.{some, some-injective}
use mathlib.Core.Logic.{inl, inr}
use mathlib.Core.List.Memᴰ
use mathlib.Core.List.{Memᴰ}
use native.Mathlib.Nat.{le_refl}
use native.Mathlib.Omega.{arith}
use borrow.Author.Tests.{ltb-false, eqb-true, not-false}
use Rattle.rules.specs.Lists.{zeros}
use Rattle.rules.specs.Streams.{Stream, streams, sample, most}
use Rattle.rules.specs.Bridge.{Bridge, bridge, spans}
use Rattle.rules.specs.Round.{round, rounds}
use Rattle.rules.specs.Refusals.{Answer, refused, done, unless, scratch_after}
use Rattle.rules.specs.Entries.{reported_bridge, bridge_answer}
use Rattle.laws_rounds.specs.Rounds.{Found}
use Rattle.laws_rounds.specs.WholeList.{numbers, numbers-length, numbers-samples}
use Rattle.laws_rounds.proofs.Rounds.{rounds_find}
use Rattle.laws_rounds.proofs.WholeList.{rounds_report}
use Rattle.samples.specs.Positions.{at, Sampled}
use Rattle.samples.specs.Samples.{sampled, samples-at, streams-length}
use Rattle.samples.specs.InOrder.{then_answer, passed_by, passed_tests, answer_by, quiet-scratch}
use Rattle.samples.specs.Answers.{answer_as}
use Rattle.samples.specs.declared.refusals.Refusal.{Refusal}
use Rattle.bridge.specs.declared.Ends.{Ends}
use Rattle.bridge.specs.Promise.{BridgeAsks, ends_of, bridge_tests, BridgePromise}
use Rattle.bridge.proofs.Bridging.{found_one}

-- the numbers below n are below n
numbers-below : (n : ℕ) {x : ℕ} → Memᴰ x (numbers n) → x < n
unfolding numbers
numbers-below zero m = absurd (Memᴰ.not-nil m)
numbers-below (suc n) {x} m = go (Memᴰ.cases_cons m) (λ y h. numbers-below n {x = y} h)
  where
    go : (x ≡ zero) ⊎ Memᴰ x (map suc (numbers n)) → ((y : ℕ) → Memᴰ y (numbers n) → y < n) → x < suc n
    go (inl e) f = omega arith
    go (inr h) f = let p = Memᴰ.of_map suc (numbers n) h in let e = p.2 in omega (arith, f p.0 p.1)

-- what the tests say, with so many words of scratch
abbrev verdict : List ℤ → List ℤ → ℤ → ℕ → Answer (List ℤ × List ℤ)
verdict es ns a room = unless (bridge_tests es ns a room) (es, ns)

-- what passed tests show
pub record Ready (es ns : List ℤ) (a : ℤ) (room : ℕ) : Type 0 where
  pub is_sampled : Sampled es ns
  pub few : length es ≤ most
  pub large : 16 * length es + 64 ≤ room
  pub spanned : spans a (streams es ns) ≡ true

pub ready : (es ns : List ℤ) (a : ℤ) (room : ℕ) {y : List ℤ × List ℤ} → done y ≡ verdict es ns a room → Ready es ns a room
ready es ns a room e =
    let n = passed_tests (es, ns) (bridge_tests es ns a room) (sym e) in
    record {
      is_sampled = sampled es ns (eqb-true (length es) (length ns) (not-false (eqb (length es) (length ns)) n.0)) n.1.1.0;
      few = ltb-false most (length es) n.1.0;
      large = ltb-false room (16 * length es + 64) n.1.1.1.0;
      spanned = not-false (spans a (streams es ns)) n.1.1.1.1.0;
    }

-- they hand back the samples
pub passed_parts : (es ns : List ℤ) (a : ℤ) (room : ℕ) {y : List ℤ × List ℤ} → done y ≡ verdict es ns a room → y ≡ (es, ns)
passed_parts es ns a room {y} e =
    let same : done y ≡ done (es, ns) = e ∙ passed_by (bridge_tests es ns a room) (passed_tests (es, ns) (bridge_tests es ns a room) (sym e)) in
    cc

module _ (es ns : List ℤ) (a : ℤ) {room : ℕ} (r : Ready es ns a room) where
  xs : List Stream
  xs = streams es ns

  long : length xs ≡ length es
  unfolding xs
  long = streams-length es ns r.is_sampled.even

  samples_are : sample xs ≡ at es ns false
  unfolding xs
  samples_are = samples-at es ns r.is_sampled.even

  -- all the samples by their numbers
  whole : map (at es ns false) (numbers (length es)) ≡ xs
  whole =
      subst₂ (λ (f : ℕ → Stream) (n : ℕ). map f (numbers n) ≡ xs) samples_are long (numbers-samples xs)

  -- the first of all the numbers at a position is the lowest: the rounds report the bridge
  pub reported : {b : Bridge ℕ} → Found (at es ns false) a (numbers (length es)) b → b ≡ reported_bridge (streams es ns) (bridge (streams es ns) a)
  unfolding xs
  reported {b} f = found_one (sample xs) a here o.2 ∙ some-injective o.0 (reported_bridge xs (bridge xs a)) (sym o.1 ∙ report)
    where
      l : List ℕ
      l = numbers (length xs)

      here : Found (sample xs) a l b
      here = subst₂ (λ (f : ℕ → Stream) (n : ℕ). Found f a (numbers n) b) (sym samples_are) (sym long) f

      both : spans a (map (sample xs) l) ≡ true
      both = subst (λ (ys : List Stream). spans a ys ≡ true) (sym (numbers-samples xs)) r.spanned

      o : (c : Bridge ℕ) × (rounds (sample xs) (length xs) a (round (sample xs) a l) ≡ some c) × Found (sample xs) a l c
      o = rounds_find (sample xs) a (length xs) l (omega (arith, numbers-length (length xs))) both

      report : rounds (sample xs) (length xs) a (round (sample xs) a l) ≡ some (reported_bridge xs (bridge xs a))
      report = rounds_report xs a (length xs) (le_refl (length xs)) r.spanned

  module _ {w : List ℕ} (e : take (length es) w ≡ numbers (length es)) where
    pub bridge_asks : room ≤ length w → BridgeAsks (length es) (at es ns false) a w (length es)
    unfolding xs
    bridge_asks h =
        let large = r.large in
        record {
          listed = record { below = λ x m. numbers-below (length es) (subst (Memᴰ x) e m) };
          spanned = subst (λ (ys : List Stream). spans a ys ≡ true) (sym (ap (map (at es ns false)) e ∙ whole)) r.spanned;
          room = omega arith;
        }

-- ---- the promise

module _ (es ns : List ℤ) (a : ℤ) (scratch : List ℕ) where
  abbrev said_here : Bridge ℕ
  said_here = reported_bridge (streams es ns) (bridge (streams es ns) a)

  by_tests : {t : Answer (List ℤ × List ℤ)} → t ≡ verdict es ns a (length scratch) → bridge_answer es ns a scratch ≡ then_answer t (done said_here)
  unfolding bridge_answer
  by_tests e = answer_by (bridge_tests es ns a (length scratch)) [] said_here (es, ns) (sym e)

  pub refused_promise : {k p : ℕ} {r : Result Ends Refusal} → refused k p ≡ verdict es ns a (length scratch)
      → answer_as ends_of r ≡ refused k p
      → BridgePromise es ns a scratch r scratch
  refused_promise e f =
      record {
        answer = f ∙ sym (by_tests e);
        scratch-is =
            sym (ap (λ (x : Answer (Bridge ℕ)). scratch_after x scratch) (by_tests e) ∙ quiet-scratch (es, ns) (bridge_tests es ns a (length scratch)) tt (sym e) scratch);
      }

  pub passed_promise : {y : List ℤ × List ℤ} → done y ≡ verdict es ns a (length scratch) → {b : Ends} → ends_of b ≡ said_here
      → (w : List ℕ) {left : List ℕ} → length w ≡ length scratch → left ≡ zeros w → BridgePromise es ns a scratch (Ok b) left
  passed_promise e b w same c =
      record {
        answer = ap done b ∙ sym (by_tests e);
        scratch-is = c ∙ ap (λ (n : ℕ). replicate n 0) same ∙ sym (ap (λ (x : Answer (Bridge ℕ)). scratch_after x scratch) (by_tests e));
      }
