-- The weighted means of a list's streams are the streams that lie behind it: those that on no course are stronger than all of it.
-- Assumes nothing.
use Rattle.std.specs.Prelude.{◌≡◌, refl, ℤ, pos, neg_ℤ, ◌+ℤ◌, ◌*ℤ◌, ◌≤ℤ◌}
use Rattle.std.proofs.Common.{sym, ap₂, ◌∙◌, subst}
use mathlib.Core.List.Memᴰ
use mathlib.Core.List.{List, [], ◌∷◌, ◌++◌, map, Memᴰ}
use Rattle.std.specs.Int.Signed.{clash_ℤ}
use Rattle.whole.specs.Laws.{≤ℤ_trans, ≤ℤ_of-≡}
use Rattle.whole.specs.Solver.{var, num, ◌⊕◌, ◌⊗◌, ⊝◌, east, north}
use Rattle.whole.specs.Certificate.{from-≤, from_0<, conclude-≤, cancel-≤}
use Rattle.rules.specs.Streams.{Stream, mirrored}
use Rattle.rules.specs.Chain.{Samples, Of, upper, lower}
use Rattle.rules.specs.Ring.{ring}
use Rattle.rules.specs.Use.{weighed, total, Mean, set_on, strongest}
use Rattle.laws_outline.specs.ListLaws.{map_in}
use Rattle.laws_outline.specs.Sidedness.{mirrored-twice}
use Rattle.laws_outline.specs.Under.{Behind}
use Rattle.laws_outline.specs.Chains.{upper_is}
use Rattle.laws_outline.specs.SameOutline.{lower-is}
use Rattle.laws_rings.specs.Rings.{upper_in_ring, lower_in_ring, ring-sample}
use Rattle.laws_rings.specs.Joins.{behind-same-ring}
use Rattle.laws_rings.specs.Strongest.{strongest-most, strongest_of}
use Rattle.laws_cover.specs.Weights.{weighed-nothing, weighed_sets, weighed-most, Weighing, all_on, mix, mean_between}
use Rattle.laws_cover.specs.Hanging.{pair, Hangs, chain_hangs}

-- ---- a mean is behind

pub mean_behind : (r : List Stream) (s : Stream) → Mean r s → Behind (Of r) s
unfolding set_on
mean_behind [] s m = clash_ℤ m.not_all_0 (≤ℤ_of-≡ (weighed-nothing (λ p. pos 1) m.weights))
mean_behind (p ∷ ps) s m =
    record { stronger = λ x y k. let t = strongest_of x y p ps in (t.0, t.1, ≤ℤ_trans (no_stronger x y) (≤ℤ_of-≡ t.2)) }
  where
    W : ℤ
    W = total m.weights (p ∷ ps)

    sets : (x y : ℤ) → weighed (set_on x y) m.weights (p ∷ ps) ≡ x *ℤ (W *ℤ s.east) +ℤ y *ℤ (W *ℤ s.north)
    sets x y = weighed_sets x y m.weights (p ∷ ps) ∙ ap₂ (λ (a b : ℤ). x *ℤ a +ℤ y *ℤ b) m.of_easts m.of_norths

    most : (x y : ℤ) → (x *ℤ (W *ℤ s.east) +ℤ y *ℤ (W *ℤ s.north)) ≤ℤ (strongest x y p ps *ℤ W)
    most x y = ≤ℤ_trans (≤ℤ_of-≡ (sym (sets x y)))
        (weighed-most (set_on x y) (strongest x y p ps) m.weights (p ∷ ps) (λ q n. strongest-most x y p ps n))

    no_stronger : (x y : ℤ) → set_on x y s ≤ℤ strongest x y p ps
    no_stronger x y =
        let ρ = x ∷ y ∷ s.east ∷ s.north ∷ W ∷ strongest x y p ps ∷ [] in
        cancel-≤ (from_0< ρ (var 4) m.not_all_0)
        (from-≤ ρ (var 0 ⊗ (var 4 ⊗ var 2) ⊕ var 1 ⊗ (var 4 ⊗ var 3)) (var 5 ⊗ var 4) (most x y)) (var 0 ⊗ var 2 ⊕ var 1 ⊗ var 3) (var 5) refl

-- ---- what is behind is a mean

-- the two that s hangs under, seen through g, in r
hang_weighs : {T : Samples} {s : Stream} (r : List Stream) (g : Stream → Stream) → ((t : Stream) → T t → Memᴰ (g t) r) → (h : Hangs T s)
    → Weighing r (λ f. pair h.m h.p h.n h.q (λ t. f (g t)))
hang_weighs r g f h = mix h.m h.n h.m_not_below h.n_not_below (all_on r (f h.p h.has_p)) (all_on r (f h.q h.has_q))

-- joined to what it lies behind, s changes no corner: so it hangs under upper corners of the list and, mirrored, under lower ones
pub behind_mean : (r : List Stream) (s : Stream) → Behind (Of r) s → Mean r s
behind_mean r s h =
    mean_between (hang_weighs r (λ t. t) (λ t m. given t (upper_in_ring xs m)) up) up.not_both_0 up.level up.high
    (hang_weighs r mirrored (λ t m. given (mirrored t) (lower_in_ring xs (map_in mirrored mirrored-twice (lower xs) m))) down) down.not_both_0
    down.level (low down.m down.n down.p.north down.q.north down.high)
  where
    xs : List Stream
    xs = r ++ (s ∷ [])

    last : Memᴰ s xs
    last = Memᴰ.append_right r (Memᴰ.head refl)

    given : (t : Stream) → Memᴰ t (ring xs) → Memᴰ t r
    given t m = ring-sample r (subst (λ (C : List Stream). Memᴰ t C) ((behind-same-ring r s).0 h) m)

    up : Hangs (Of (upper xs)) s
    up = chain_hangs (upper_is xs) s last

    down : Hangs (Of (map mirrored (lower xs))) (mirrored s)
    down = chain_hangs (lower-is xs) (mirrored s) (Memᴰ.cast (mirrored-twice s) last)

    low : (m n a b : ℤ) → ((m *ℤ pos 1 +ℤ n *ℤ pos 1) *ℤ neg_ℤ s.north) ≤ℤ (m *ℤ a +ℤ n *ℤ b)
        → (m *ℤ neg_ℤ a +ℤ n *ℤ neg_ℤ b) ≤ℤ ((m *ℤ pos 1 +ℤ n *ℤ pos 1) *ℤ s.north)
    low m n a b k =
        let ρ = m ∷ n ∷ a ∷ b ∷ s.north ∷ [] in
        let all = var 0 ⊗ num (pos 1) ⊕ var 1 ⊗ num (pos 1) in
        conclude-≤ (from-≤ ρ (all ⊗ ⊝ var 4) (var 0 ⊗ var 2 ⊕ var 1 ⊗ var 3) k) (var 0 ⊗ ⊝ var 2 ⊕ var 1 ⊗ ⊝ var 3) (all ⊗ var 4) refl
