-- A sum has at most as many corners as both rings together: each of its halves has at most the sides of those it is merged from, and the ends of its halves
-- stand apart only where those of one of the rings do. Assumes nothing.
use Rattle.std.specs.Prelude.{◌≡◌, refl, Bool, true, false, List, [], ◌∷◌, ◌+◌, ◌≤◌, ◌<◌, length}
use Rattle.std.proofs.Common.{sym, ap, ap₂, subst, arith}
use Rattle.rules.specs.Lists.{best}
use Rattle.rules.specs.Streams.{Stream, same}
use Rattle.rules.specs.Chain.{left_end, corners, upper}
use Rattle.rules.specs.Ring.{ring}
use Rattle.rules.specs.Use.{envelope, added, sum}
use Rattle.laws_outline.specs.SamePosition.{same_equal, equal_same}
use Rattle.laws_rings.specs.Rings.{envelope-ring}
use Rattle.laws_rings.specs.Halves.{half, around, ring_halves}
use Rattle.laws_halves.specs.Count.{gap, apart, at_most_one, end, around-count}
use Rattle.laws_sums.specs.Sums.{sum_empty_left, sum_empty_right}
use Rattle.laws_sums.specs.Merge.{merge, Merges, merge-is, merges_count, merges_last}
use Rattle.laws_sums.specs.TwoMerges.{sum_merges}

-- two sums stand apart only where the streams do that were added
apart-added : (p q u v : Stream) → apart (added p q) (added u v) ≤ apart p u + apart q v
apart-added p q u v = go (same p u) (same q v) refl refl
  where
    one : apart (added p q) (added u v) ≤ 1
    one = at_most_one (added p q) (added u v)

    go : (b c : Bool) → same p u ≡ b → same q v ≡ c → apart (added p q) (added u v) ≤ gap b + gap c
    go false c e f = omega (arith, one)
    go true false e f = omega (arith, one)
    go true true e f = omega (arith, ap gap (equal_same (ap₂ added (same_equal p u e) (same_equal q v f))))

-- ---- two merges that go round

module _ {a a' d d' : Stream} {U U' R R' M N : List Stream} (m : Merges a U a' U' M) (n : Merges d R d' R' N) where
  right_ends : apart (end (added a a') M) (added d d') ≤ apart (end a U) d + apart (end a' U') d'
  right_ends =
      subst (λ (s : Stream). apart s (added d d') ≤ apart (end a U) d + apart (end a' U') d') (sym (merges_last m)) (apart-added (end a U) (end a' U') d d')

  left-ends : apart (added a a') (end (added d d') N) ≤ apart a (end d R) + apart a' (end d' R')
  left-ends =
      subst (λ (s : Stream). apart (added a a') s ≤ apart a (end d R) + apart a' (end d' R')) (sym (merges_last n)) (apart-added a a' (end d R) (end d' R'))

  merges_few : length (around (added a a' ∷ M) (added d d' ∷ N)) ≤ length (around (a ∷ U) (d ∷ R)) + length (around (a' ∷ U') (d' ∷ R'))
  merges_few =
      omega (
        arith,
        around-count (added a a') M (added d d') N,
        around-count a U d R,
        around-count a' U' d' R',
        merges_count m,
        merges_count n,
        right_ends,
        left-ends,
      )

merge_few : (U R U' R' : List Stream) → 0 < length U → 0 < length R → 0 < length U' → 0 < length R'
    → length (around (merge U U') (merge R R')) ≤ length (around U R) + length (around U' R')
unfolding merge
merge_few [] R U' R' h k l m = absurd (omega arith)
merge_few (a ∷ U) [] U' R' h k l m = absurd (omega arith)
merge_few (a ∷ U) (d ∷ R) [] R' h k l m = absurd (omega arith)
merge_few (a ∷ U) (d ∷ R) (a' ∷ U') [] h k l m = absurd (omega arith)
merge_few (a ∷ U) (d ∷ R) (a' ∷ U') (d' ∷ R') h k l m = merges_few (merge-is a U a' U') (merge-is d R d' R')

-- ---- the sum

-- of some streams, each half has a corner
half_some : (back : Bool) (x : Stream) (xs : List Stream) → 0 < length (half back (x ∷ xs))
unfolding upper left_end best corners
half_some false x xs = omega arith
half_some true x xs = omega arith

-- THE LAW, of the rings of any streams
pub sum_rings_few : (xs ys : List Stream) → length (sum xs ys) ≤ length (ring xs) + length (ring ys)
sum_rings_few [] ys = omega (arith, ap length (sum_empty_left ys))
sum_rings_few (x ∷ xs) [] = omega (arith, ap length (sum_empty_right (x ∷ xs)))
sum_rings_few (x ∷ xs) (y ∷ ys) =
    omega (
      arith,
      ap length (sum_merges (x ∷ xs) (y ∷ ys)),
      ap length (ring_halves (x ∷ xs)),
      ap length (ring_halves (y ∷ ys)),
      merge_few (half false (x ∷ xs)) (half true (x ∷ xs)) (half false (y ∷ ys)) (half true (y ∷ ys)) (half_some false x xs) (half_some true x xs)
          (half_some false y ys) (half_some true y ys),
    )

-- and of two envelopes
pub sum_few : (r t : List Stream) → envelope r ≡ true → envelope t ≡ true → length (sum r t) ≤ length r + length t
sum_few r t e f = omega (arith, sum_rings_few r t, ap length ((envelope-ring r).0 e), ap length ((envelope-ring t).0 f))
