-- Two lists of corners that fit together, one turning right above, one turning left below, are the upper and the lower chain of their positions, so the
-- ring that they close to is the ring of its own positions. And every ring closes from two such lists.
-- Assumes nothing.
use Rattle.std.specs.Prelude.{◌≡◌, refl, ◌⊎◌, List, [], ◌∷◌, map, ◌≤ℤ◌}
use Rattle.std.proofs.Common.{sym, ap₂, ◌∙◌, subst, subst₂, inl, inr, ⊎_elim}
use mathlib.Core.List.Memᴰ
use Rattle.whole.specs.Laws.{≤ℤ_antisym, negℤ-≤ℤ}
use Rattle.rules.specs.Streams.{Stream, mirrored}
use Rattle.rules.specs.Chain.{Samples, Of, RightEnd, Goes, stop, on, UpperChain, empty, starts, upper, lower}
use Rattle.rules.specs.Ring.{closed, ring}
use Rattle.laws_outline.specs.ListLaws.{map-twice, in_map, map_in}
use Rattle.laws_outline.specs.Sidedness.{mirrored-twice}
use Rattle.laws_outline.specs.Under.{Under, Through, on_self, under-at-east}
use Rattle.laws_outline.specs.Chains.{upper_is, upper_only}
use Rattle.laws_outline.specs.SameOutline.{lower-is, lower_only, same_outline}
use Rattle.laws_rings.specs.Rings.{closed_in, upper_in_closed, lower_in_closed}
use Rattle.laws_neighbours.specs.TurnsMakeChain.{Bends, ends, bends, far_end, far_end_given, far_end_map, bending_chain, sags}

-- u stands at l, or straight above it
pub record Atop (u l : Stream) : Type 0 where
  pub level : l.east ≡ u.east
  pub high : l.north ≤ℤ u.north

-- from u over U above and from l over L below, left to right: above every turn is strictly right, below, mirrored, too, and the ends stand atop each other
pub record Fit (u : Stream) (U : List Stream) (l : Stream) (L : List Stream) : Type 0 where
  pub above : Bends u U
  pub below : Bends (mirrored l) (map mirrored L)
  pub left : Atop u l
  pub right : Atop (far_end u U) (far_end l L)

-- ---- the mirror exchanges the two

atop_mirrored : {u l : Stream} → Atop u l → Atop (mirrored l) (mirrored u)
atop_mirrored a = record { level = sym a.level; high = negℤ-≤ℤ a.high }

bends_twice : {p : Stream} {C : List Stream} → Bends p C → Bends (mirrored (mirrored p)) (map mirrored (map mirrored C))
bends_twice {p} {C} b = subst₂ Bends (sym (mirrored-twice p)) (sym (map-twice mirrored mirrored-twice C)) b

pub fit_mirrored : {u l : Stream} {U L : List Stream} → Fit u U l L → Fit (mirrored l) (map mirrored L) (mirrored u) (map mirrored U)
fit_mirrored {u} {l} {U} {L} f = record {
  above = f.below;
  below = bends_twice f.above;
  left = atop_mirrored f.left;
  right = subst₂ Atop (sym (far_end_map mirrored l L)) (sym (far_end_map mirrored u U)) (atop_mirrored f.right);
}

-- ---- the upper list is the upper chain of all the positions

pub upper_fits : {u l : Stream} {U L : List Stream} → Fit u U l L → {S : Samples} → ((s : Stream) → Of (u ∷ U) s → S s)
    → ((s : Stream) → S s → Of (u ∷ U) s ⊎ Of (l ∷ L) s) → UpperChain S (u ∷ U)
upper_fits {u} {l} {U} {L} f inside all = same_outline inside (λ s h. ⊎_elim on_self (sags l L f.below left right s) (all s h))
    (bending_chain f.above)
  where
    left : Under (Of (u ∷ U)) l
    left = under-at-east (Memᴰ.head refl) f.left.level f.left.high

    right : Under (Of (u ∷ U)) (far_end l L)
    right = under-at-east (far_end_given u U) f.right.level f.right.high

-- THE LAW: the ring they close to is the ring of its own positions
pub fit_ring : {u l : Stream} {U L : List Stream} → Fit u U l L → ring (closed (u ∷ U) (l ∷ L)) ≡ closed (u ∷ U) (l ∷ L)
unfolding ring
fit_ring {u} {l} {U} {L} f = ap₂ closed (upper_only chain) (lower_only {xs = r} mirrored-chain ∙ map-twice mirrored mirrored-twice (l ∷ L))
  where
    r : List Stream
    r = closed (u ∷ U) (l ∷ L)

    chain : UpperChain (Of r) (u ∷ U)
    chain = upper_fits f (λ s m. upper_in_closed (u ∷ U) (l ∷ L) m) (λ s m. closed_in (u ∷ U) (l ∷ L) m)

    seen : (C : List Stream) {s : Stream} → Of C (mirrored s) → Of (map mirrored C) s
    seen C m = in_map mirrored mirrored-twice m

    mirrored-chain : UpperChain (Through mirrored (Of r)) (map mirrored (l ∷ L))
    mirrored-chain = upper_fits (fit_mirrored f) (λ s m. lower_in_closed (u ∷ U) (l ∷ L) (map_in mirrored mirrored-twice (l ∷ L) m))
        (λ s m. ⊎_elim (λ n. inr (seen (u ∷ U) n)) (λ n. inl (seen (l ∷ L) n)) (closed_in (u ∷ U) (l ∷ L) m))

-- ---- the chains of some samples fit

goes_bend : {S : Samples} {p : Stream} {C : List Stream} → Goes S p C → Bends p C
goes_bend (stop r) = ends
goes_bend (on e t g) = bends e.ahead t (goes_bend g)

goes_end : {S : Samples} {p : Stream} {C : List Stream} → Goes S p C → RightEnd S (far_end p C)
goes_end (stop r) = r
goes_end (on e t g) = goes_end g

chains_fit : {S : Samples} {u l : Stream} {U L : List Stream} → UpperChain S (u ∷ U) → UpperChain (Through mirrored S) (mirrored l ∷ map mirrored L)
    → Fit u U l L
chains_fit {S} {u} {l} {U} {L} (starts h g) (starts k d) = record {
  above = goes_bend g;
  below = goes_bend d;
  left = record { level = at_left; high = h.greatest l below_left at_left };
  right = record { level = at_right; high = right.greatest n below_right at_right };
}
  where
    twice : {s : Stream} → S s → S (mirrored (mirrored s))
    twice {s} m = subst S (sym (mirrored-twice s)) m

    once : {s : Stream} → S (mirrored (mirrored s)) → S s
    once {s} m = subst S (mirrored-twice s) m

    below_left : S l
    below_left = once k.given

    at_left : l.east ≡ u.east
    at_left = ≤ℤ_antisym (k.least (mirrored u) (twice h.given)) (h.least l below_left)

    m : Stream
    m = far_end u U

    n : Stream
    n = far_end l L

    right : RightEnd S m
    right = goes_end g

    lower_right : RightEnd (Through mirrored S) (mirrored n)
    lower_right = subst (RightEnd (Through mirrored S)) (far_end_map mirrored l L) (goes_end d)

    below_right : S n
    below_right = once lower_right.given

    at_right : n.east ≡ m.east
    at_right = ≤ℤ_antisym (right.most n below_right) (lower_right.most (mirrored m) (twice right.given))

-- r closes from two lists that fit
pub record Parts (r : List Stream) : Type 0 where
  pub u : Stream
  pub l : Stream
  pub U : List Stream
  pub L : List Stream
  pub fit : Fit u U l L
  pub closes : closed (u ∷ U) (l ∷ L) ≡ r

-- a ring does
pub ring-parts : (x : Stream) (xs : List Stream) → Parts (ring (x ∷ xs))
unfolding ring
ring-parts x xs = go (upper r) (lower r) refl refl (upper_is r) (lower-is r)
  where
    r : List Stream
    r = x ∷ xs

    go : (C D : List Stream) → C ≡ upper r → D ≡ lower r → UpperChain (Of r) C → UpperChain (Through mirrored (Of r)) (map mirrored D)
        → Parts (ring r)
    go [] D e d (empty f) k = absurd (f x (Memᴰ.head refl))
    go (u ∷ U) [] e d h (empty f) = absurd (f (mirrored x) (Memᴰ.head (mirrored-twice x)))
    go (u ∷ U) (l ∷ L) e d h k = record { u = u; l = l; U = U; L = L; fit = chains_fit h k; closes = ap₂ closed e d }
