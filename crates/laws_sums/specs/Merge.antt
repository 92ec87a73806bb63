-- Two chains followed together: the sum of the left ends, then always the steeper of the two next edges, both at once where they have one slope. What the
-- function gives is said again as steps, for the laws. Assumes nothing.
use Rattle.std.specs.Prelude.{◌≡◌, refl, Bool, true, false, cond, List, [], ◌∷◌, map, suc, ◌+◌, ◌-◌, ◌≤◌, ◌<◌, ℤ, pos, ◌<ℤ◌, length}
use Rattle.std.proofs.Common.{arith}
use Rattle.std.specs.Int.Signed.{lt_z}
use Rattle.whole.specs.Linear.{order, negation}
use Rattle.whole.specs.Laws.{≤ℤ_antisym, test-lt, test_nlt}
use Rattle.rules.specs.Streams.{Stream, sample}
use Rattle.rules.specs.Use.{added}
use Rattle.laws_sums.specs.Ways.{bend, bend_crossed}

-- ---- the function

-- of three, as the second way is less steep than the first, steeper, or neither
abbrev pub by_bend : {A : Type 0} → ℤ → A → A → A → A
by_bend z less steeper level = cond (lt_z z (pos 0)) less (cond (lt_z (pos 0) z) steeper level)

-- the first chain has come to p and goes on to q, and `on` is what follows once it is there; the second has come to u and goes on over D
abbrev pub weave : Stream → Stream → (Stream → List Stream → List Stream) → Stream → List Stream → List Stream
weave p q on u [] = added q u ∷ on u []
weave p q on u (v ∷ D) = by_bend (bend p q u v) (added q u ∷ on u (v ∷ D)) (added p v ∷ weave p q on v D) (added q v ∷ on v D)

-- what follows the sum of p and u, from which the chains go on over C and D
abbrev pub merge_on : Stream → List Stream → Stream → List Stream → List Stream
merge_on p [] u D = map (added p) D
merge_on p (q ∷ C) u D = weave p q (λ w E. merge_on q C w E) u D

unfoldable pub merge : List Stream → List Stream → List Stream
merge [] D = []
merge (p ∷ C) [] = []
merge (p ∷ C) (u ∷ D) = added p u ∷ merge_on p C u D

-- ---- the steps

-- less steep than the way ab
abbrev pub Less : Stream → Stream → Stream → Stream → Type 0
Less a b u v = bend a b u v <ℤ pos 0

-- from p the chain goes on over C by a way of the kind K, if it goes on
abbrev pub Onward : (Stream → Stream → Type 0) → Stream → List Stream → Type 0
Onward K p [] = Unit {0}
Onward K p (q ∷ C) = K p q

-- M follows the sum of p and u
pub data Merges : Stream → List Stream → Stream → List Stream → List Stream → Type 0 where
  over : {p u : Stream} → Merges p [] u [] []
  first : {p q u : Stream} {C D M : List Stream} → Onward (Less p q) u D → Merges q C u D M → Merges p (q ∷ C) u D (added q u ∷ M)
  second : {p u v : Stream} {C D M : List Stream} → Onward (Less u v) p C → Merges p C v D M → Merges p C u (v ∷ D) (added p v ∷ M)
  both : {p q u v : Stream} {C D M : List Stream} → bend p q u v ≡ pos 0 → Merges q C v D M → Merges p (q ∷ C) u (v ∷ D) (added q v ∷ M)

weave-is : (p q : Stream) {C : List Stream} (on : Stream → List Stream → List Stream) → ((w : Stream) (E : List Stream) → Merges q C w E (on w E))
    → (u : Stream) (D : List Stream) → Merges p (q ∷ C) u D (weave p q on u D)
weave-is p q on h u [] = first tt (h u [])
weave-is p q {C} on h u (v ∷ D) = less (lt_z (bend p q u v) (pos 0)) refl (weave-is p q on h v D)
  where
    Step : List Stream → Type 0
    Step M = Merges p (q ∷ C) u (v ∷ D) M

    level : (b : Bool) → lt_z (bend p q u v) (pos 0) ≡ false → lt_z (pos 0) (bend p q u v) ≡ b → Merges p (q ∷ C) v D (weave p q on v D)
        → Step (cond b (added p v ∷ weave p q on v D) (added q v ∷ on v D))
    level true f e r = second (steeper (test-lt (pos 0) (bend p q u v) e)) r
      where
        steeper : pos 0 <ℤ bend p q u v → bend u v p q <ℤ pos 0
        steeper k = let c = bend_crossed p q u v in omega (order, negation (bend p q u v))
    level false f e r = both (≤ℤ_antisym (test_nlt (pos 0) (bend p q u v) e) (test_nlt (bend p q u v) (pos 0) f)) (h v D)

    less : (b : Bool) → lt_z (bend p q u v) (pos 0) ≡ b → Merges p (q ∷ C) v D (weave p q on v D)
        → Step (cond b (added q u ∷ on u (v ∷ D)) (cond (lt_z (pos 0) (bend p q u v)) (added p v ∷ weave p q on v D) (added q v ∷ on v D)))
    less true e r = first (test-lt (bend p q u v) (pos 0) e) (h u (v ∷ D))
    less false e r = level (lt_z (pos 0) (bend p q u v)) e refl r

pub merge-is : (p : Stream) (C : List Stream) (u : Stream) (D : List Stream) → Merges p C u D (merge_on p C u D)
merge-is p [] u [] = over
merge-is p [] u (v ∷ D) = second tt (merge-is p [] v D)
merge-is p (q ∷ C) u D = weave-is p q (λ w E. merge_on q C w E) (λ w E. merge-is q C w E) u D

-- ---- the count and the ends of a merge

pub merges_count : {p u : Stream} {C D M : List Stream} → Merges p C u D M → length M ≤ length C + length D
merges_count over = omega arith
merges_count (first n m) = let h = merges_count m in omega arith
merges_count (second n m) = let h = merges_count m in omega arith
merges_count (both n m) = let h = merges_count m in omega arith

-- there are no more corners than the two chains have
pub merge-count : (C D : List Stream) → length (merge C D) ≤ length C + length D
unfolding merge
merge-count [] D = omega arith
merge-count (p ∷ C) [] = omega arith
merge-count (p ∷ C) (u ∷ D) = omega (arith, merges_count (merge-is p C u D))

pub merges_last : {p u : Stream} {C D M : List Stream} → Merges p C u D M
    → sample (added p u ∷ M) (length M) ≡ added (sample (p ∷ C) (length C)) (sample (u ∷ D) (length D))
merges_last over = refl
merges_last (first n m) = merges_last m
merges_last (second n m) = merges_last m
merges_last (both n m) = merges_last m

-- it starts with the sum of the first corners, and ends with that of the last
pub merge-ends : (C D : List Stream) → 0 < length C → 0 < length D → (0 < length (merge C D)) × (sample (merge C D) 0 ≡ added (sample C 0) (sample D 0))
    × (sample (merge C D) (length (merge C D) - 1) ≡ added (sample C (length C - 1)) (sample D (length D - 1)))
unfolding merge
merge-ends [] D h k = absurd (omega arith)
merge-ends (p ∷ C) [] h k = absurd (omega arith)
merge-ends (p ∷ C) (u ∷ D) h k =
    (omega arith, refl, rw (one_less (merge_on p C u D), one_less C, one_less D) (merges_last (merge-is p C u D)))
  where
    one_less : (l : List Stream) → suc (length l) - 1 ≡ length l
    one_less l = omega arith
