-- How many corners the ring of samples can have, and how long what is printed can be: the sizes of the program's lists.
-- Assumes nothing.
use Rattle.std.specs.Prelude.{◌≡◌, refl, Bool, true, false, cond, List, [], ◌∷◌, map, reverse, ℕ, zero, suc, ◌+◌, ◌≤◌, length}
use Rattle.std.proofs.Math.Option.{Option, none, some}
use Rattle.std.proofs.Common.{arith, length-append}
use Rattle.std.proofs.lemmas.List.{length-map, length-reverse}
use Rattle.rules.specs.Lists.{some_of, first_place}
use Rattle.rules.specs.Streams.{Stream, mirrored, beyond}
use Rattle.rules.specs.Chain.{corners, left_end, next_corner, upper, lower}
use Rattle.rules.specs.Ring.{first_of, last_of, equals, leave_first, leave_last, closed, ring}
use Rattle.rules.specs.Refusals.{refused, done}
use Rattle.rules.specs.Program.{ring_of_text, printed}
use Rattle.laws_rings.specs.Rings.{ring-sample}
use Rattle.laws_outline.specs.ListLaws.{none_of_is, is_none_of}
use Rattle.text.specs.Room.{ring_room, refusal_room}

-- ---- no more corners than two chains have

corners_few : (n : ℕ) (first : Option Stream) (xs : List Stream) → length (corners n first xs) ≤ n
unfolding corners
corners_few zero first xs = omega arith
corners_few (suc n) none xs = omega arith
corners_few (suc n) (some p) xs = omega (arith, corners_few n (next_corner p xs) xs)

upper_few : (xs : List Stream) → length (upper xs) ≤ length xs
unfolding upper
upper_few xs = corners_few (length xs) (left_end xs) xs

lower_few : (xs : List Stream) → length (lower xs) ≤ length xs
unfolding lower
lower_few xs = omega (arith, length-map (upper (map mirrored xs)) mirrored, upper_few (map mirrored xs), length-map xs mirrored)

without-first : (end : Option Stream) (R : List Stream) → length (leave_first end R) ≤ length R
without-first end [] = omega arith
without-first end (p ∷ R) = go (equals end p)
  where
    go : (b : Bool) → length (cond b R (p ∷ R)) ≤ suc (length R)
    go true = omega arith
    go false = omega arith

without_last : (end : Option Stream) (R : List Stream) → length (leave_last end R) ≤ length R
without_last end [] = omega arith
without_last end (p ∷ []) = go (equals end p)
  where
    go : (b : Bool) → length (cond b [] (p ∷ [])) ≤ 1
    go true = omega arith
    go false = omega arith
without_last end (p ∷ q ∷ R) = omega (arith, without_last end (q ∷ R))

pub ring_few : (xs : List Stream) → length (ring xs) ≤ length xs + length xs
unfolding ring closed
ring_few xs =
    let back = reverse (lower xs) in
    let ends = leave_first (last_of (upper xs)) back in
    omega (
      arith,
      length-append (upper xs) (leave_last (first_of (upper xs)) ends),
      without_last (first_of (upper xs)) ends,
      without-first (last_of (upper xs)) back,
      length-reverse (lower xs),
      upper_few xs,
      lower_few xs,
    )

-- ---- corners are samples, so within the limit where all samples are

ring-within : (xs : List Stream) → some_of beyond xs ≡ false → some_of beyond (ring xs) ≡ false
ring-within xs h = is_none_of beyond (ring xs) (λ p m. none_of_is beyond xs h (ring-sample xs m))

-- ---- what is printed

pub ring_of_samples_room : (xs : List Stream) → length xs ≤ 512 → length (printed (ring_of_text (done xs))) ≤ 18442
ring_of_samples_room xs few = go (some_of beyond xs) refl
  where
    go : (b : Bool) → some_of beyond xs ≡ b → length (printed (cond b (refused 3 (first_place beyond xs)) (done (ring xs)))) ≤ 18442
    go true e = omega (arith, refusal_room 3 (first_place beyond xs))
    go false e = ring_room (ring xs) (omega (arith, ring_few xs)) (ring-within xs e)
