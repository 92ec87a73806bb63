-- The parts of a ring turned about: the place of entry, and the parts with their signs changed from there on and round. Assumes nothing.
use Rattle.std.specs.Prelude.{◌≡◌, refl, true, false, ℕ, zero, suc, ◌+◌, ◌-◌, ◌≤◌, ◌<◌, ℤ, pos, neg_ℤ, ◌≤ℤ◌, length, get_or, take, drop, Result}
use Rattle.std.proofs.Common.{sym, ap, ap₂, ◌∙◌, subst, arith, lit≤, get_or-drop}
use Rattle.std.proofs.Math.Path.{fun_ext}
use mathlib.Core.List.{List, [], ◌∷◌, ◌++◌, map, map-append, map-map, Memᴰ}
use Rattle.whole.specs.Fits.{Within}
use Rattle.rules.specs.Lists.{first_place, written}
use Rattle.rules.specs.Streams.{Stream, stream, streams, sample, limit, same, turned}
use Rattle.rules.specs.Chain.{leftmost}
use Rattle.rules.specs.Use.{envelope, turn_about}
use Rattle.rules.specs.Refusals.{Answer, refused, done, output_after}
use Rattle.rules.specs.Entries.{easts, norths, counted, turn_answer}
use Rattle.laws_outline.specs.ListLaws.{at_place_in, is-first-place}
use Rattle.laws_outline.specs.TwoKeys.{two_keys_no}
use Rattle.laws_outline.specs.SamePosition.{equal_same, no_same}
use Rattle.laws_rings.specs.Cycle.{from_place, turn_from, turned-length}
use Rattle.laws_rings.specs.FewestCorners.{no_samples}
use Rattle.samples.specs.Positions.{Sampled}
use Rattle.samples.specs.Samples.{streams-length, streams-easts, streams-norths}
use Rattle.samples.specs.Answers.{answer_of}
use Rattle.samples.specs.declared.refusals.Refusal.{Refusal}
use Rattle.envelope.specs.UseAnswers.{TurnPromise}
use Rattle.envelope.specs.FirstBest.{First, first-apart, first_unbeaten, nearer_entry, entry_orders}
use Rattle.envelope.specs.Writes.{map-drop, map-take}

-- the corners from place r on and round, with both signs changed, are the ring turned about
pub record Entry (xs : List Stream) (r : ℕ) : Type 0 where
  pub here : r ≤ length xs
  pub turns_about : turn_about xs ≡ map turned (from_place r xs)

-- every part of the list within the limit
pub record AllNear (ps : List ℤ) : Type 0 where
  pub near : (i : ℕ) → Within (get_or ps i (pos 0)) limit

-- the parts with their signs changed, from a place on and round
abbrev pub turned_from : ℕ → List ℤ → List ℤ
turned_from k ps = map neg_ℤ (drop k ps ++ take k ps)

-- ---- the place of entry

-- a place that no corner is nearer the entry than, and the first such
module _ (xs : List Stream) {r : ℕ} (f : First nearer_entry xs (length xs) r) where
  unbeaten : (s : Stream) → Memᴰ s xs → (s.east ≤ℤ (sample xs r).east) × ((sample xs r).east ≡ s.east → (sample xs r).north ≤ℤ s.north)
  unfolding leftmost
  unbeaten s m =
      two_keys_no (sample xs r).east s.east (sample xs r).east s.east s.north (sample xs r).north (first_unbeaten f m)

  not_before : (k : ℕ) → k < r → same (sample xs r) (sample xs k) ≡ false
  not_before k h = no_same (first-apart entry_orders xs f k h)

  first : first_place (same (sample xs r)) xs ≡ r
  first = is-first-place (same (sample xs r)) xs (stream (pos 0) (pos 0)) r f.here (equal_same refl) not_before

  entered : envelope xs ≡ true → Entry xs r
  entered e = record {
    here = omega (arith, f.here);
    turns_about =
        turn_from xs (sample xs r) e (at_place_in xs r (stream (pos 0) (pos 0)) f.here) (λ s m. (unbeaten s m).0) (λ s m h. (unbeaten s m).1 (sym h)) ∙
        ap (λ (k : ℕ). map turned (from_place k xs)) first;
  }

-- one pass from place 1 to the end finds it, also where there are no corners
pub entered_at : (xs : List Stream) {i r : ℕ} → First nearer_entry xs i r → length xs ≤ i → i - 1 ≤ length xs - 1 → envelope xs ≡ true → Entry xs r
unfolding turn_about
entered_at [] {i} {r} f h k e =
    subst (Entry []) (only i r f.here k) (record { here = omega arith; turns_about = no_samples })
  where
    only : (i r : ℕ) → r < i → i - 1 ≤ 0 - 1 → 0 ≡ r
    only i r h k = omega arith
entered_at (x ∷ xs) {i} {r} f h k e = entered (x ∷ xs) (subst (λ (n : ℕ). First nearer_entry (x ∷ xs) n r) (all i h k) f) e
  where
    all : (i : ℕ) → length (x ∷ xs) ≤ i → i - 1 ≤ length (x ∷ xs) - 1 → i ≡ length (x ∷ xs)
    all i h k = omega arith

-- ---- the parts of the ring turned about

pub parts_near : {es ns : List ℤ} → Sampled es ns → AllNear es × AllNear ns
parts_near p = (record { near = p.east_near }, record { near = p.north_near })

zero_near : Within (pos 0) limit
zero_near = record { within = lit≤ tt }

pub near_drop : (k : ℕ) {ps : List ℤ} → AllNear ps → AllNear (drop k ps)
near_drop k {ps} h = record { near = λ i. subst (λ (z : ℤ). Within z limit) (sym (get_or-drop k ps i (pos 0))) (h.near (k + i)) }

pub near_take : (k : ℕ) {ps : List ℤ} → AllNear ps → AllNear (take k ps)
near_take k {ps} h = record { near = go k ps h.near }
  where
    go : (k : ℕ) (ps : List ℤ) → ((i : ℕ) → Within (get_or ps i (pos 0)) limit) → (i : ℕ) → Within (get_or (take k ps) i (pos 0)) limit
    go zero ps h i = zero_near
    go (suc k) [] h i = zero_near
    go (suc k) (p ∷ ps) h zero = h 0
    go (suc k) (p ∷ ps) h (suc i) = go k ps (λ j. h (suc j)) i

-- one part of each stream, from a place on and round, with the sign changed
module _ (part : Stream → ℤ) (changed : (s : Stream) → part (turned s) ≡ neg_ℤ (part s)) where
  turned-parts : (k : ℕ) (xs : List Stream) → map part (map turned (from_place k xs)) ≡ turned_from k (map part xs)
  turned-parts k xs =
      map-map part turned (from_place k xs) ∙
      ap (λ (f : Stream → ℤ). map f (from_place k xs)) (fun_ext changed) ∙
      sym (map-map neg_ℤ part (from_place k xs)) ∙
      ap (map neg_ℤ) (map-append part (drop k xs) (take k xs) ∙ ap₂ ◌++◌ (map-drop part k xs) (map-take part k xs))

module _ (es ns : List ℤ) (even : length es ≡ length ns) {r : ℕ} (t : Entry (streams es ns) r) where
  turned-easts : easts (turn_about (streams es ns)) ≡ turned_from r es
  turned-easts =
      ap easts t.turns_about ∙ turned-parts (λ s. s.east) (λ s. refl) r (streams es ns) ∙ ap (turned_from r) (streams-easts es ns even)

  turned-norths : norths (turn_about (streams es ns)) ≡ turned_from r ns
  turned-norths =
      ap norths t.turns_about ∙ turned-parts (λ s. s.north) (λ s. refl) r (streams es ns) ∙ ap (turned_from r) (streams-norths es ns even)

-- ---- what turning about answers and leaves in its outputs

module _ (es ns oe on : List ℤ) where
  -- a refusal alters nothing
  pub turn_refused : {r : Result ℕ Refusal} {number place : ℕ} → answer_of r ≡ refused number place → turn_answer es ns oe on ≡ refused number place →
      TurnPromise es ns oe on r oe on
  turn_refused h e =
      record {
        answer = h ∙ ap counted (sym e);
        east_after = ap (λ (a : Answer (List Stream)). output_after easts a oe) (sym e);
        north_after = ap (λ (a : Answer (List Stream)). output_after norths a on) (sym e);
      }

  -- from the place of entry on all corners are written
  pub turn_done : {r : Result ℕ Refusal} {oe' on' : List ℤ} {k : ℕ} → Sampled es ns → envelope (streams es ns) ≡ true → Entry (streams es ns) k →
      answer_of r ≡ done (length es) → oe' ≡ written (turned_from k es) oe → on' ≡ written (turned_from k ns) on →
      turn_answer es ns oe on ≡ done (turn_about (streams es ns)) → TurnPromise es ns oe on r oe' on'
  turn_done p v t h he hn e =
      record {
        answer = h ∙ sym (ap counted e ∙ ap done (turned-length (streams es ns) v ∙ streams-length es ns p.even));
        east_after =
            he ∙
            sym (ap (λ (a : Answer (List Stream)). output_after easts a oe) e ∙ ap (λ (l : List ℤ). written l oe) (turned-easts es ns p.even t));
        north_after =
            hn ∙
            sym (ap (λ (a : Answer (List Stream)). output_after norths a on) e ∙ ap (λ (l : List ℤ). written l on) (turned-norths es ns p.even t));
      }
