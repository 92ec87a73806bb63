-- The sum of two rings is two merges that go round: of the halves that go there, and of the halves that go back, which bend as their streams turned about do.
-- Assumes nothing.
use Rattle.std.specs.Prelude.{◌≡◌, refl, Bool, true, false, cond, List, [], ◌∷◌, map, ℤ, pos}
use Rattle.std.proofs.Common.{sym, ap, ap₂, ◌∙◌}
use Rattle.std.specs.Int.Signed.{lt_z}
use Rattle.rules.specs.Streams.{Stream, turned}
use Rattle.rules.specs.Chain.{upper}
use Rattle.rules.specs.Use.{added, sums, sum}
use Rattle.laws_rings.specs.Halves.{half, around, ring_halves}
use Rattle.laws_sums.specs.Sums.{turned-added, sums-turned}
use Rattle.laws_sums.specs.Ways.{bend, bend-turned}
use Rattle.laws_sums.specs.Merge.{by_bend, weave, merge_on, merge}
use Rattle.laws_sums.specs.Merged.{upper-sums}

-- ---- a merge turned about

by_bend_map : {A B : Type 0} (f : A → B) (z : ℤ) (x y w : A) → by_bend z (f x) (f y) (f w) ≡ f (by_bend z x y w)
by_bend_map f z x y w = go (lt_z z (pos 0)) (lt_z (pos 0) z)
  where
    go : (s t : Bool) → cond s (f x) (cond t (f y) (f w)) ≡ f (cond s x (cond t y w))
    go true t = refl
    go false true = refl
    go false false = refl

weave-turned : (p q : Stream) (on on' : Stream → List Stream → List Stream)
    → ((w : Stream) (E : List Stream) → on' (turned w) (map turned E) ≡ map turned (on w E)) → (u : Stream) (D : List Stream)
    → weave (turned p) (turned q) on' (turned u) (map turned D) ≡ map turned (weave p q on u D)
weave-turned p q on on' h u [] = ap₂ ◌∷◌ (sym (turned-added q u)) (h u [])
weave-turned p q on on' h u (v ∷ D) =
    ap (λ (z : ℤ). by_bend z (added (turned q) (turned u) ∷ on' (turned u) (map turned (v ∷ D)))
    (added (turned p) (turned v) ∷ weave (turned p) (turned q) on' (turned v) (map turned D)) (added (turned q) (turned v) ∷ on' (turned v) (map turned D)))
    (bend-turned p q u v)
    ∙ (λ i. by_bend (bend p q u v) (step q u (on u (v ∷ D)) (h u (v ∷ D)) i) (step p v (weave p q on v D) (weave-turned p q on on' h v D) i) (step q v (on v D) (h v D) i))
    ∙ by_bend_map (map turned) (bend p q u v) (added q u ∷ on u (v ∷ D)) (added p v ∷ weave p q on v D) (added q v ∷ on v D)
  where
    step : (a b : Stream) (M : List Stream) {N : List Stream} → N ≡ map turned M → added (turned a) (turned b) ∷ N ≡ map turned (added a b ∷ M)
    step a b M e = ap₂ ◌∷◌ (sym (turned-added a b)) e

merge_on_turned : (p : Stream) (C : List Stream) (u : Stream) (D : List Stream)
    → merge_on (turned p) (map turned C) (turned u) (map turned D) ≡ map turned (merge_on p C u D)
merge_on_turned p [] u [] = refl
merge_on_turned p [] u (v ∷ D) = ap₂ ◌∷◌ (sym (turned-added p v)) (merge_on_turned p [] v D)
merge_on_turned p (q ∷ C) u D =
    weave-turned p q (λ w E. merge_on q C w E) (λ w E. merge_on (turned q) (map turned C) w E) (λ w E. merge_on_turned q C w E) u D

pub merge-turned : (C D : List Stream) → merge (map turned C) (map turned D) ≡ map turned (merge C D)
unfolding merge
merge-turned [] D = refl
merge-turned (p ∷ C) [] = refl
merge-turned (p ∷ C) (u ∷ D) = ap₂ ◌∷◌ (sym (turned-added p u)) (merge_on_turned p C u D)

-- ---- the sum

-- each half of the sums is the merge of the two halves
pub half-sums : (back : Bool) (r t : List Stream) → half back (sums r t) ≡ merge (half back r) (half back t)
half-sums false r t = upper-sums r t
half-sums true r t =
    ap (λ (l : List Stream). map turned (upper l)) (sums-turned r t) ∙ ap (map turned) (upper-sums (map turned r) (map turned t))
    ∙ sym (merge-turned (upper (map turned r)) (upper (map turned t)))

-- THE LAW
pub sum_merges : (r t : List Stream) → sum r t ≡ around (merge (half false r) (half false t)) (merge (half true r) (half true t))
unfolding sum
sum_merges r t = ring_halves (sums r t) ∙ ap₂ around (half-sums false r t) (half-sums true r t)
