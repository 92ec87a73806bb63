-- Samples within the outline of others change no chain: every sample is under the corners, and two lists with the same outline have one chain; the
-- same for the lower chain, through norths negated, and for the ring.
-- Assumes nothing.
use Rattle.std.specs.Prelude.{◌≡◌, refl, ◌⊎◌, ◌≤◌, ◌<◌, ◌≤ℤ◌, ◌<ℤ◌}
use Rattle.std.proofs.Common.{sym, ap, ap₂, subst, inl, inr, ⊎_elim}
use mathlib.Core.List.Memᴰ
use mathlib.Core.List.{List, ◌∷◌, map, Memᴰ}
use Rattle.whole.specs.Laws.{≤ℤ_total, ≤ℤ_trans, ≤ℤ_antisym, <ℤ→≤ℤ}
use Rattle.rules.specs.Streams.{Stream, mirrored}
use Rattle.rules.specs.Chain.{Samples, Of, LeftEnd, Edge, Goes, stop, on, UpperChain, empty, starts, corners, upper, lower}
use Rattle.rules.specs.Ring.{closed, ring}
use Rattle.laws_outline.specs.ListLaws.{map-twice, in_map, map_in}
use Rattle.laws_outline.specs.Sidedness.{below-at-first, below-at-second, mirrored-twice}
use Rattle.laws_outline.specs.Under.{Under, Over, Behind, Through, on_self, on_inside, behind-under, behind-over, over-mirrored, under-mirrored, under-between, under-at-east, under_west, under-east, under-north, under-line}
use Rattle.laws_outline.specs.Chains.{upper_is, upper_unique, upper-corners}

-- ---- every sample is under the corners

goes_under : {S T : Samples} {p : Stream} {C : List Stream} → Goes S p C → ((q : Stream) → Memᴰ q (p ∷ C) → T q) → (s : Stream) → S s
    → p.east ≤ℤ s.east → Under T s
goes_under (stop {p} h) f s m l = let e = ≤ℤ_antisym (h.most s m) l in under-at-east (f p (Memᴰ.head refl)) e (h.greatest s m e)
goes_under {S} {T} (on {p} {q} {C} e t g) f s m l =
    ⊎_elim here (λ h. goes_under g (λ r n. f r (Memᴰ.tail n)) s m (<ℤ→≤ℤ h)) (≤ℤ_total s.east q.east)
  where
    here : s.east ≤ℤ q.east → Under T s
    here h = under-between p q s (f p (Memᴰ.head refl)) (f q (Memᴰ.tail (Memᴰ.head refl))) e.ahead l h (e.below s m)

pub upper-under : {S : Samples} {C : List Stream} → UpperChain S C → (s : Stream) → S s → Under (Of C) s
upper-under (empty f) s m = absurd (f s m)
upper-under (starts h g) s m = goes_under g (λ q n. n) s m (h.least s m)

-- ---- the same outline

-- T is inside S, and all of S is under T
module _ {S T : Samples} (inside : (s : Stream) → T s → S s) (under : (s : Stream) → S s → Under T s) where
  same-edge : {p q : Stream} → Edge T p q → Edge S p q
  same-edge {p} {q} e =
      record {
        from = inside p e.from;
        to = inside q e.to;
        ahead = e.ahead;
        below = λ s m. under-line (under s m) p q (<ℤ→≤ℤ e.ahead) e.below;
      }

  same_goes : {p : Stream} {C : List Stream} → ((s : Stream) → S s → s.east ≡ p.east → s.north ≤ℤ p.north) → Goes T p C → Goes S p C
  same_goes top (stop {p} h) =
      stop (record {
        given = inside p h.given;
        most = λ s m. let t = under-east (under s m) in ≤ℤ_trans t.2 (h.most t.0 t.1);
        greatest =
            top;
      })
  same_goes top (on {p} {q} e t g) = on (same-edge e) t (same_goes (λ s m l. below-at-second p q s e.ahead l ((same-edge e).below s m)) g)

  same-greatest : {p : Stream} {C : List Stream} → LeftEnd T p → Goes T p C → (s : Stream) → S s → s.east ≡ p.east → s.north ≤ℤ p.north
  same-greatest k (stop {p} h) s m l =
      let t = under-north (under s m) in ≤ℤ_trans t.2 (k.greatest t.0 t.1 (≤ℤ_antisym (h.most t.0 t.1) (k.least t.0 t.1)))
  same-greatest k (on {p} {q} e t g) s m l = below-at-first p q s e.ahead l ((same-edge e).below s m)

  same-left-end : {p : Stream} {C : List Stream} → LeftEnd T p → Goes T p C → LeftEnd S p
  same-left-end {p} k g =
      record {
        given = inside p k.given;
        least = λ s m. let t = under_west (under s m) in ≤ℤ_trans (k.least t.0 t.1) t.2;
        greatest = same-greatest k g;
      }

  -- THE LAW: a chain of T is the chain of S
  pub same_outline : {C : List Stream} → UpperChain T C → UpperChain S C
  same_outline (empty f) = empty (λ s m. let t = under-east (under s m) in f t.0 t.1)
  same_outline (starts h g) = starts (same-left-end h g) (same_goes (same-greatest h g) g)

-- two sets each of which is under the other
pub outlines_equal : {S T : Samples} {C D : List Stream} → ((s : Stream) → S s → Under T s) → ((s : Stream) → T s → Under S s) → UpperChain S C
    → UpperChain T D → C ≡ D
outlines_equal {S} {T} f g h k =
    upper_unique (same_outline (λ s m. inl m) (λ s m. ⊎_elim on_self (g s) m) h)
    (same_outline {S = Either} (λ s m. inr m) (λ s m. ⊎_elim (f s) on_self m) k)
  where
    Either : Samples
    Either s = S s ⊎ T s

-- two sets of the same samples
pub same-samples : {S T : Samples} → ((s : Stream) → S s → T s) → ((s : Stream) → T s → S s) → {C : List Stream} → UpperChain S C → UpperChain T C
same-samples f g h = same_outline f (λ s m. on_self (g s m)) h

-- lists
pub upper_inside : {xs ys : List Stream} → ((s : Stream) → Memᴰ s xs → Memᴰ s ys) → ((s : Stream) → Memᴰ s ys → Under (Of xs) s)
    → upper xs ≡ upper ys
upper_inside {xs} {ys} f g = upper_unique (same_outline f g (upper_is xs)) (upper_is ys)

pub upper_equal : {xs ys : List Stream} → ((s : Stream) → Memᴰ s xs → Under (Of ys) s) → ((s : Stream) → Memᴰ s ys → Under (Of xs) s)
    → upper xs ≡ upper ys
upper_equal {xs} {ys} f g = outlines_equal f g (upper_is xs) (upper_is ys)

pub upper_members : {xs ys : List Stream} → ((s : Stream) → Memᴰ s xs → Memᴰ s ys) → ((s : Stream) → Memᴰ s ys → Memᴰ s xs)
    → upper xs ≡ upper ys
upper_members f g = upper_inside f (λ s m. on_self (g s m))

-- ---- through an involution of the streams

pub upper_through : (f : Stream → Stream) → ((p : Stream) → f (f p) ≡ p) → (xs : List Stream) → UpperChain (Through f (Of xs)) (upper (map f xs))
upper_through f twice xs = same-samples (λ s m. map_in f twice xs m) (λ s m. in_map f twice m) (upper_is (map f xs))

-- ---- the lower chain

pub lower-is : (xs : List Stream) → UpperChain (Through mirrored (Of xs)) (map mirrored (lower xs))
unfolding lower
lower-is xs =
    subst (UpperChain (Through mirrored (Of xs))) (sym (map-twice mirrored mirrored-twice (upper (map mirrored xs))))
    (upper_through mirrored mirrored-twice xs)

pub lower_only : {xs D : List Stream} → UpperChain (Through mirrored (Of xs)) D → lower xs ≡ map mirrored D
unfolding lower
lower_only {xs} h = ap (map mirrored) (upper_unique (upper_through mirrored mirrored-twice xs) h)

-- two lists each of which is over the other
pub lower_equal : {xs ys : List Stream} → ((s : Stream) → Memᴰ s xs → Over (Of ys) s) → ((s : Stream) → Memᴰ s ys → Over (Of xs) s)
    → lower xs ≡ lower ys
unfolding lower
lower_equal {xs} {ys} f g =
    ap (map mirrored) (outlines_equal (seen f) (seen g) (upper_through mirrored mirrored-twice xs) (upper_through mirrored mirrored-twice ys))
  where
    seen : {zs ws : List Stream} → ((s : Stream) → Memᴰ s zs → Over (Of ws) s) → (s : Stream) → Memᴰ (mirrored s) zs
        → Under (Through mirrored (Of ws)) s
    seen {ws} h s m = subst (Under (Through mirrored (Of ws))) (mirrored-twice s) (over-mirrored (h (mirrored s) m))

pub lower_members : {xs ys : List Stream} → ((s : Stream) → Memᴰ s xs → Memᴰ s ys) → ((s : Stream) → Memᴰ s ys → Memᴰ s xs)
    → lower xs ≡ lower ys
lower_members f g = lower_equal (λ s m. on_self (f s m)) (λ s m. on_self (g s m))

-- every corner is a sample, and every sample is over the corners
pub lower-corners : (xs : List Stream) (q : Stream) → Memᴰ q (lower xs) → Memᴰ q xs
unfolding lower
lower-corners xs q m =
    Memᴰ.cast (sym (mirrored-twice q)) (upper-corners (upper_through mirrored mirrored-twice xs) (mirrored q)
    (map_in mirrored mirrored-twice (upper (map mirrored xs)) m))

pub lower-over : (xs : List Stream) (s : Stream) → Memᴰ s xs → Over (Of (lower xs)) s
unfolding lower
lower-over xs s m =
    on_inside (λ t n. in_map mirrored mirrored-twice n) (subst (Over (Through mirrored (Of (upper (map mirrored xs))))) (mirrored-twice s)
    (under-mirrored (upper-under (upper_through mirrored mirrored-twice xs) (mirrored s) (Memᴰ.cast (mirrored-twice s) m))))

-- ---- the ring

-- two lists each of which is, on every course, no stronger than the other
pub ring_equal : {xs ys : List Stream} → ((s : Stream) → Memᴰ s xs → Behind (Of ys) s) → ((s : Stream) → Memᴰ s ys → Behind (Of xs) s)
    → ring xs ≡ ring ys
unfolding ring
ring_equal f g =
    ap₂ closed (upper_equal (λ s m. behind-under (f s m)) (λ s m. behind-under (g s m)))
    (lower_equal (λ s m. behind-over (f s m)) (λ s m. behind-over (g s m)))

pub ring_members : {xs ys : List Stream} → ((s : Stream) → Memᴰ s xs → Memᴰ s ys) → ((s : Stream) → Memᴰ s ys → Memᴰ s xs)
    → ring xs ≡ ring ys
ring_members f g = ring_equal (λ s m. on_self (f s m)) (λ s m. on_self (g s m))
