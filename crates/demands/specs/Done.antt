-- What an entry that is done says: none of its tests held, and the answer is what it was to be; a ring that it writes stands at the front of both outputs.
-- Assumes nothing.
use Rattle.std.specs.Prelude.{◌≡◌, List, ℕ, ℤ, length, take}
use Rattle.std.proofs.Common.{sym, ap, ap₂, ◌∙◌}
use Rattle.std.proofs.lemmas.List.{length-map}
use Rattle.rules.specs.Streams.{Stream, streams}
use Rattle.rules.specs.Refusals.{Answer, done, Test, unless, output_after}
use Rattle.rules.specs.Entries.{easts, norths, counted}
pub use Rattle.laws_refusals.specs.NoneHold.{None_hold, when_done, not_refused}
use Rattle.samples.specs.Samples.{streams-length, streams-easts, streams-norths}
use Rattle.samples.specs.Outputs.{counted_done, front, streams-parts}

-- an entry that tells the count of what it writes, and is done
pub counted-left : {A : Type 0} (ts : List Test) (x : List A) {n : ℕ} → done n ≡ counted (unless ts x) →
    None_hold ts × (unless ts x ≡ done x) × (n ≡ length x)
counted-left {A} ts x {n} told = go (counted_done (unless ts x) told)
  where
    go : (y : List A) × (unless ts x ≡ done y) × (n ≡ length y) → None_hold ts × (unless ts x ≡ done x) × (n ≡ length x)
    go (y, a, h) = let says = when_done ts x a in (says.0, a ∙ ap done (sym says.1), h ∙ ap length (sym says.1))

-- ---- a ring that is written

-- the ring r stands at the front of two outputs, n corners
pub record Left (r : List Stream) (n : ℕ) (east north : List ℤ) : Type 0 where
  pub count : n ≡ length r
  pub easts-left : take n east ≡ easts r
  pub norths-left : take n north ≡ norths r

-- the tests ts, then the ring r: what is told is its count, and what is left of the outputs is what the rules say
pub ring-left : (ts : List Test) (r : List Stream) (east north : List ℤ) {n : ℕ} {east' north' : List ℤ} → done n ≡ counted (unless ts r)
    → east' ≡ output_after easts (unless ts r) east → north' ≡ output_after norths (unless ts r) north → None_hold ts × Left r n east' north'
ring-left ts r east north {n} told e f =
    let (none, answered, count) = counted-left ts r told in (
      none,
      record {
        count = count;
        easts-left =
            ap (take n) (e ∙ ap (λ (t : Answer (List Stream)). output_after easts t east) answered) ∙
            front (easts r) east n (length-map r (λ s. s.east) ∙ sym count);
        norths-left =
            ap (take n) (f ∙ ap (λ (t : Answer (List Stream)). output_after norths t north) answered) ∙
            front (norths r) north n (length-map r (λ s. s.north) ∙ sym count);
      },
    )

module _ {r : List Stream} {n : ℕ} {east north : List ℤ} (l : Left r n east north) where
  pub left_even : length (take n east) ≡ length (take n north)
  left_even = ap length l.easts-left ∙ length-map r (λ s. s.east) ∙ sym (ap length l.norths-left ∙ length-map r (λ s. s.north))

  -- so it is read there again
  pub left-ring : streams (take n east) (take n north) ≡ r
  left-ring = ap₂ streams l.easts-left l.norths-left ∙ streams-parts r

  -- where it is a ring that was given as two lists, these lists are what stands there
  pub left_as_given : {es ns : List ℤ} → length es ≡ length ns → r ≡ streams es ns → (n ≡ length es) × (take n east ≡ es) × (take n north ≡ ns)
  left_as_given {es} {ns} even e = (
    l.count ∙ ap length e ∙ streams-length es ns even,
    l.easts-left ∙ ap easts e ∙ streams-easts es ns even,
    l.norths-left ∙ ap norths e ∙ streams-norths es ns even,
  )
