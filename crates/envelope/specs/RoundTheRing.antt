-- Walks round a ring place by place: the test of neighbours, and of a stream right of or on every edge; both tests by the number of corners.
-- Assumes nothing.
use Rattle.std.specs.Prelude.{◌≡◌, refl, true, false, ◌&&◌, List, [], ◌∷◌, ℕ, suc, ◌+◌, ◌-◌, ◌≤◌, ◌<◌, pos, length, drop}
use Rattle.std.proofs.Math.Path.{ap, ap₂}
use Rattle.std.proofs.Common.{◌∙◌, drop_of_length-le, drop-cons}
use Rattle.std.proofs.Math.Bool.{Bool}
use native.Mathlib.Omega.{arith}
use Rattle.std.specs.Int.Signed.{le_z, lt_z}
use Rattle.rules.specs.Streams.{Stream, stream, sample, same, side}
use Rattle.rules.specs.Chain.{leftmost}
use Rattle.rules.specs.Use.{beside, covers}
use Rattle.laws_neighbours.specs.NeighbourTest.{turns, closes, goes_round, neighbourly}

module _ (xs : List Stream) where
  -- what is left of the ring at place i
  left_at : (i : ℕ) → i < length xs → drop i xs ≡ sample xs i ∷ drop (i + 1) xs
  left_at i h = drop-cons xs i (stream (pos 0) (pos 0)) h ∙ ap (λ (k : ℕ). sample xs i ∷ drop k xs) (next i)
    where
      next : (i : ℕ) → suc i ≡ i + 1
      next i = omega arith

  -- ---- from place 0 to place 1, over all corners and back

  -- what is left of the test of neighbours when it comes to place i
  abbrev pub round_from : ℕ → Bool
  round_from i = goes_round (sample xs 0) (sample xs (i - 2)) (sample xs (i - 1)) (drop i xs)

  pub round_more : (i : ℕ) → 2 ≤ i → i < length xs →
      round_from i ≡ (turns (sample xs (i - 2)) (sample xs (i - 1)) (sample xs i) && round_from (i + 1))
  unfolding goes_round
  round_more i two h =
      ap (goes_round (sample xs 0) (sample xs (i - 2)) (sample xs (i - 1))) (left_at i h) ∙
      ap₂
      (λ (j k : ℕ). here && goes_round (sample xs 0) (sample xs j) (sample xs k) (drop (i + 1) xs))
      (one_less i two)
      (same_place i)
    where
      here : Bool
      here = turns (sample xs (i - 2)) (sample xs (i - 1)) (sample xs i)

      one_less : (i : ℕ) → 2 ≤ i → i - 1 ≡ i + 1 - 2
      one_less i h = omega arith

      same_place : (i : ℕ) → i ≡ i + 1 - 1
      same_place i = omega arith

  pub round-end : (i : ℕ) → length xs ≤ i → round_from i ≡ closes (sample xs (i - 2)) (sample xs (i - 1)) (sample xs 0)
  unfolding goes_round
  round-end i h = ap (goes_round (sample xs 0) (sample xs (i - 2)) (sample xs (i - 1))) (drop_of_length-le xs h)

  -- ---- right of or on every edge

  -- what is left of the test whether s lies beside every edge when it comes to place i
  abbrev pub beside_from : Stream → ℕ → Bool
  beside_from s i = beside s (sample xs 0) (sample xs (i - 1)) (drop i xs)

  pub beside_more : (s : Stream) (i : ℕ) → 1 ≤ i → i < length xs →
      beside_from s i ≡ (le_z (side (sample xs (i - 1)) (sample xs i) s) (pos 0) && beside_from s (i + 1))
  unfolding beside
  beside_more s i one h =
      ap (beside s (sample xs 0) (sample xs (i - 1))) (left_at i h) ∙
      ap
      (λ (k : ℕ). le_z (side (sample xs (i - 1)) (sample xs i) s) (pos 0) && beside s (sample xs 0) (sample xs k) (drop (i + 1) xs))
      (same_place i)
    where
      same_place : (i : ℕ) → i ≡ i + 1 - 1
      same_place i = omega arith

  pub beside_end : (s : Stream) (i : ℕ) → length xs ≤ i → beside_from s i ≡ le_z (side (sample xs (i - 1)) (sample xs 0) s) (pos 0)
  unfolding beside
  beside_end s i h = ap (beside s (sample xs 0) (sample xs (i - 1))) (drop_of_length-le xs h)

-- ---- rings by their number of corners

pub few_pass : (xs : List Stream) → length xs < 2 → neighbourly xs ≡ true
unfolding neighbourly
few_pass [] h = refl
few_pass (p ∷ []) h = refl
few_pass (p ∷ q ∷ ps) h = absurd (omega arith)

pub two_pass : (xs : List Stream) → length xs ≡ 2 → neighbourly xs ≡ leftmost (sample xs 0) (sample xs 1)
unfolding neighbourly
two_pass [] h = absurd (omega arith)
two_pass (p ∷ []) h = absurd (omega arith)
two_pass (p ∷ q ∷ []) h = refl
two_pass (p ∷ q ∷ r ∷ ps) h = absurd (omega arith)

pub more_pass : (xs : List Stream) → 2 < length xs → neighbourly xs ≡ (lt_z (sample xs 0).east (sample xs 1).east && round_from xs 2)
unfolding neighbourly
more_pass [] h = absurd (omega arith)
more_pass (p ∷ []) h = absurd (omega arith)
more_pass (p ∷ q ∷ []) h = absurd (omega arith)
more_pass (p ∷ q ∷ r ∷ ps) h = refl

-- ---- the cover test by the number of corners

pub none_cover : (xs : List Stream) (s : Stream) → length xs ≡ 0 → covers xs s ≡ false
unfolding covers
none_cover [] s h = refl
none_cover (p ∷ ps) s h = absurd (omega arith)

pub one_cover : (xs : List Stream) (s : Stream) → length xs ≡ 1 → covers xs s ≡ same (sample xs 0) s
unfolding covers
one_cover [] s h = absurd (omega arith)
one_cover (p ∷ []) s h = refl
one_cover (p ∷ q ∷ ps) s h = absurd (omega arith)

pub two_cover : (xs : List Stream) (s : Stream) → length xs ≡ 2 → covers xs s ≡ covers (sample xs 0 ∷ sample xs 1 ∷ []) s
two_cover [] s h = absurd (omega arith)
two_cover (p ∷ []) s h = absurd (omega arith)
two_cover (p ∷ q ∷ []) s h = refl
two_cover (p ∷ q ∷ r ∷ ps) s h = absurd (omega arith)

pub more_cover : (xs : List Stream) (s : Stream) → 2 < length xs → covers xs s ≡ beside_from xs s 1
unfolding covers
more_cover [] s h = absurd (omega arith)
more_cover (p ∷ []) s h = absurd (omega arith)
more_cover (p ∷ q ∷ []) s h = absurd (omega arith)
more_cover (p ∷ q ∷ r ∷ ps) s h = refl
