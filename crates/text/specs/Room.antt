-- How long a printed answer can be: the room that the program gives it.
-- Assumes nothing.
use Rattle.std.specs.Prelude.{◌≡◌, Bool, true, false, cond, not, ◌&&◌, ◌||◌, ltb, ℤ, pos, negsuc, length}
use Rattle.std.proofs.Math.Path.{refl}
use Rattle.std.proofs.Common.{true≢false, pow-suc, suc-mul, ltb-false, leb-true, length-append}
use mathlib.Core.List.{List, [], ◌∷◌, ◌++◌}
use Prim.Native.Nat.{ℕ, zero, suc, ◌+◌, ◌*◌, ◌/◌, ◌%◌, ◌^◌, ◌≤◌, ◌<◌}
use native.Mathlib.Omega.{arith}
use Rattle.rules.specs.Lists.{some_of}
use Rattle.rules.specs.Streams.{Stream, within, beyond, limit}
use Rattle.rules.specs.Refusals.{refused, done}
use Rattle.rules.specs.Program.{digit_zero, digits, space, newline, printed_natural, printed_whole, printed_corners, printed}
use Rattle.text.specs.PrintedCorners.{printed_corner, corner-length, refusal_length, ring-length}

-- ---- numbers

-- no more digits than the fuel allows
digits-most : (k n : ℕ) (after : List ℕ) → length (digits k n after) ≤ k + length after
unfolding digits
digits-most zero n after = omega arith
digits-most (suc k) n after = go (ltb n 10) (digits-most k (n / 10) ((digit_zero + n % 10) ∷ after))
  where
    go : (t : Bool) → length (digits k (n / 10) ((digit_zero + n % 10) ∷ after)) ≤ k + suc (length after) →
        length (cond t ((digit_zero + n) ∷ after) (digits k (n / 10) ((digit_zero + n % 10) ∷ after))) ≤ suc k + length after
    go true h = omega arith
    go false h = omega arith

-- no more than the number has
digits_few : (k m n : ℕ) (after : List ℕ) → n < 10 ^ suc m → length (digits k n after) ≤ suc m + length after
unfolding digits
digits_few zero m n after h = omega arith
digits_few (suc k) m n after h = go (ltb n 10) refl m h (λ j. digits_few k j (n / 10) ((digit_zero + n % 10) ∷ after))
  where
    go : (t : Bool) → ltb n 10 ≡ t → (m : ℕ) → n < 10 ^ suc m →
        ((j : ℕ) → n / 10 < 10 ^ suc j → length (digits k (n / 10) ((digit_zero + n % 10) ∷ after)) ≤ suc j + suc (length after)) →
        length (cond t ((digit_zero + n) ∷ after) (digits k (n / 10) ((digit_zero + n % 10) ∷ after))) ≤ suc m + length after
    go true e m h r = omega arith
    go false e zero h r = absurd (omega (arith, ltb-false n 10 e))
    go false e (suc m) h r = omega (arith, r m (omega (arith, pow-suc 10 (suc m))))

natural_most : (n : ℕ) → length (printed_natural n) ≤ 20
unfolding printed_natural
natural_most n = omega (arith, digits-most 20 n [])

pub natural_few : (m n : ℕ) → n < 10 ^ suc m → length (printed_natural n) ≤ suc m
unfolding printed_natural
natural_few m n h = omega (arith, digits_few 20 m n [] h)

whole_few : (z : ℤ) → within z ≡ true → length (printed_whole z) ≤ 8
unfolding printed_whole within
whole_few (pos n) h = omega (arith, natural_few 6 n (omega (arith, leb-true n limit h)))
whole_few (negsuc n) h = omega (arith, natural_few 6 (suc n) (omega (arith, leb-true (suc n) limit h)))

-- ---- rings

-- lines of at most so many bytes, where no corner passes the test
module _ (test : Stream → Bool) (k : ℕ) (short : (p : Stream) → test p ≡ false → length (printed_corner p.east p.north) ≤ k) where
  lines_short : (r : List Stream) → some_of test r ≡ false → length (printed_corners r) ≤ length r * k
  unfolding printed_corners some_of
  lines_short [] h = omega arith
  lines_short (p ∷ r) h = go (test p) refl h (lines_short r)
    where
      line : List ℕ
      line = printed_whole p.east ++ (space ∷ printed_whole p.north)

      go : (t : Bool) → test p ≡ t → t || some_of test r ≡ false → (some_of test r ≡ false → length (printed_corners r) ≤ length r * k) →
          length (line ++ (newline ∷ printed_corners r)) ≤ suc (length r) * k
      go true e h f = absurd (true≢false h)
      go false e h f =
          omega (
            arith,
            length-append line (newline ∷ printed_corners r),
            length-append line (newline ∷ []),
            short p e,
            f h,
            suc-mul (length r) k,
          )

-- both parts of a stream that is not beyond the limit are within it
pub near_parts : (p : Stream) → beyond p ≡ false → (within p.east ≡ true) × (within p.north ≡ true)
unfolding beyond
near_parts p h = go (within p.east) (within p.north) h
  where
    go : (s t : Bool) → not (s && t) ≡ false → (s ≡ true) × (t ≡ true)
    go true true h = (refl, refl)
    go true false h = absurd (true≢false h)
    go false t h = absurd (true≢false h)

corner_few : (p : Stream) → beyond p ≡ false → length (printed_corner p.east p.north) ≤ 18
corner_few p h =
    let near = near_parts p h in
    omega (arith, corner-length p.east p.north, whole_few p.east near.0, whole_few p.north near.1)

-- ---- the answer

-- a ring of parts within the limit: at most so many corners as two chains of 512 have
pub ring_room : (r : List Stream) → length r ≤ 1024 → some_of beyond r ≡ false → length (printed (done r)) ≤ 18442
ring_room r h g =
    omega (arith, ring-length r, natural_few 3 (length r) (omega arith), lines_short beyond 18 corner_few r g)

pub refusal_room : (k p : ℕ) → length (printed (refused k p)) ≤ 50
refusal_room k p = omega (arith, refusal_length k p, natural_most k, natural_most p)
