-- The ring that two fitting lists close to passes the test of neighbours: east along the upper list, a strict right turn at the right end, west along the
-- lower one, and a strict right turn back to the first corner.
-- Assumes nothing.
use Rattle.std.specs.Prelude.{◌≡◌, ◌≢◌, ◌⊎◌, Bool, true, false, cond, ◌||◌, pos, ◌≤ℤ◌, ◌<ℤ◌}
use Rattle.std.proofs.Math.Path.{refl}
use Rattle.std.proofs.Common.{sym, ap, ◌∙◌, subst, inl, inr, ⊎_elim}
use Rattle.std.proofs.Math.Option.{Option, some}
use mathlib.Core.List.Memᴰ
use mathlib.Core.List.{List, [], ◌∷◌, ◌++◌, map, reverse, reverse_aux}
use Rattle.std.proofs.Math.IntN.{ℤ}
use Rattle.std.specs.Int.Signed.{lt_z, clash_ℤ}
use Rattle.whole.specs.Linear.{order, negation}
use Rattle.whole.specs.Laws.{≤ℤ_of-≡, ≤ℤ_antisym, ≤ℤ_split, <ℤ→≢, lt_test, le_test}
use Rattle.whole.specs.Solver.{◌⊖◌, east, north, tri, num}
use Rattle.whole.specs.Certificate.{◌⊞◌, ◌⊠◌, scaled, from-<, from-≡, from-≡0, from_0≤, cancel-≤, conclude-<}
use Rattle.rules.specs.Streams.{Stream, side, same, mirrored}
use Rattle.rules.specs.Chain.{Samples, Of, Edge, Turn, Goes, stop, on, leftmost}
use Rattle.rules.specs.Ring.{last_of, leave_first, leave_last, closed}
use Rattle.laws_outline.specs.ListLaws.{yes_both, yes_one, in_map, map_in}
use Rattle.laws_outline.specs.SamePosition.{streams_equal, same_equal, same_no}
use Rattle.laws_outline.specs.TwoKeys.{yes_first_key, yes_second_key}
use Rattle.laws_outline.specs.Sidedness.{side-mirrored, mirrored-twice, at_first_strictly_below, at_second_strictly_below}
use Rattle.laws_outline.specs.Chains.{goes_edge, goes_turn, goes_next, upper_along}
use Rattle.laws_outline.specs.Under.{Through}
use Rattle.laws_rings.specs.FewestCorners.{all-flush}
use Rattle.laws_neighbours.specs.NeighbourTest.{turns, closes, goes_round, neighbourly}
use Rattle.laws_neighbours.specs.TurnsMakeChain.{far_end, far_end_past, last_far, bends_ahead, bends_turn, turn_unmirrored}
use Rattle.laws_neighbours.specs.ListsFit.{Atop, Fit, fit_mirrored, upper_fits}

-- ---- the tests, from facts

one_of : {a b c d : ℤ} → (a <ℤ b) ⊎ (c <ℤ d) → (lt_z a b || lt_z c d) ≡ true
one_of {a} {b} {c} {d} o = yes_one (lt_z a b) (lt_z c d) (⊎_elim (λ h. inl (lt_test h)) (λ h. inr (lt_test h)) o)

step : (first a b c : Stream) (C : List Stream) → side a b c <ℤ pos 0 → (a.east <ℤ b.east) ⊎ (c.east <ℤ b.east) → goes_round first b c C ≡ true
    → goes_round first a b (c ∷ C) ≡ true
unfolding goes_round turns
step first a b c C t o g = yes_both (yes_both (lt_test t) (one_of o)) g

home : (first a b : Stream) → side a b first <ℤ pos 0 → first.east ≤ℤ b.east → goes_round first a b [] ≡ true
unfolding goes_round closes
home first a b t h = yes_both (lt_test t) (le_test h)

-- ---- straight sides

-- apart, the upper one is strictly above
atop_apart : {u l : Stream} → Atop u l → u ≢ l → l.north <ℤ u.north
atop_apart {u} {l} a f = ⊎_elim (λ h. h) (λ e. absurd (f (streams_equal (sym a.level) (sym e)))) (≤ℤ_split a.high)

module _ (a b c : Stream) where
  -- after a side that goes east, straight down
  turn_down : a.east <ℤ b.east → c.east ≡ b.east → c.north <ℤ b.north → side a b c <ℤ pos 0
  turn_down ab e h = at_second_strictly_below a b c ab e h

  -- from straight down to a side that goes west
  turn_west : b.east ≡ a.east → b.north <ℤ a.north → c.east <ℤ b.east → side a b c <ℤ pos 0
  unfolding side
  turn_west e h cb = conclude-< (from-< ρ (north 1) (north 0) h ⊠ from-< ρ (east 2) (east 1) cb
      ⊞ scaled (from-≡ ρ (east 1) (east 0) e) (north 2 ⊖ north 1)) (tri 0 1 2) (num (pos 0)) refl
    where
      ρ : List ℤ
      ρ = a.east ∷ a.north ∷ b.east ∷ b.north ∷ c.east ∷ c.north ∷ []

  -- from a side that goes west straight up
  turn_up : b.east <ℤ a.east → c.east ≡ b.east → b.north <ℤ c.north → side a b c <ℤ pos 0
  unfolding side
  turn_up ba e h = conclude-< (from-< ρ (east 1) (east 0) ba ⊠ from-< ρ (north 1) (north 2) h
      ⊞ scaled (from-≡ ρ (east 2) (east 1) e) (north 0 ⊖ north 1)) (tri 0 1 2) (num (pos 0)) refl
    where
      ρ : List ℤ
      ρ = a.east ∷ a.north ∷ b.east ∷ b.north ∷ c.east ∷ c.north ∷ []

-- ---- the turn at a right end that both lists have

-- some three positions stand on no line
record Wide (S : Samples) : Type 0 where
  p : Stream
  q : Stream
  s : Stream
  has_p : S p
  has_q : S q
  has_s : S s
  bend : side p q s <ℤ pos 0

module _ {S : Samples} (a k m : Stream) (above : Edge S a m) (below : Edge (Through mirrored S) (mirrored k) (mirrored m)) where
  twice : {s : Stream} → S s → S (mirrored (mirrored s))
  twice {s} h = subst S (sym (mirrored-twice s)) h

  over : (s : Stream) → S s → pos 0 ≤ℤ side k m s
  over s h = let b = below.below (mirrored s) (twice h) in let e = side-mirrored k m s in omega (order, negation (side k m s))

  -- if k were on the line, so would be all
  flush : side a m k ≡ pos 0 → (s : Stream) → S s → side a m s ≡ pos 0
  unfolding side
  flush e s h = ≤ℤ_antisym (above.below s h) (cancel-≤ (from-< ρ (east 2) (east 1) below.ahead)
      (from-< ρ (east 0) (east 1) above.ahead ⊠ from_0≤ ρ (tri 2 1 3) (over s h) ⊞ scaled (from-≡0 ρ (tri 0 1 2) e) (east 1 ⊖ east 3))
      (num (pos 0)) (tri 0 1 3) refl)
    where
      ρ : List ℤ
      ρ = a.east ∷ a.north ∷ m.east ∷ m.north ∷ k.east ∷ k.north ∷ s.east ∷ s.north ∷ []

  turn_at_right_end : Wide S → side a m k <ℤ pos 0
  turn_at_right_end w = ⊎_elim (λ h. h) (λ e. clash_ℤ w.bend (≤ℤ_of-≡ (sym (on_one_line e))))
      (≤ℤ_split (above.below k (subst S (mirrored-twice k) below.from)))
    where
      apart : a ≢ m
      apart e = <ℤ→≢ above.ahead (ap (λ (t : Stream). t.east) e)

      on_one_line : side a m k ≡ pos 0 → side w.p w.q w.s ≡ pos 0
      on_one_line e = all-flush a m w.p w.q w.s (flush e w.p w.has_p) (flush e w.q w.has_q) (flush e w.s w.has_s) apart

-- ---- west, below

-- at l, with k and X to come, the ring goes home from every corner a from which it turns right there
abbrev Ready : Stream → Stream → Stream → List Stream → Type 0
Ready first l k X = (a : Stream) → side a l k <ℤ pos 0 → (a.east <ℤ l.east) ⊎ (k.east <ℤ l.east)
    → goes_round first a l (leave_last (some first) (k ∷ X)) ≡ true

ready_first : {first k : Stream} (l : Stream) → Atop first k → k.east <ℤ l.east → Ready first l k []
ready_first {first} {k} l h kl a t o = go (same first k) refl
  where
    go : (s : Bool) → same first k ≡ s → goes_round first a l (cond s [] (k ∷ [])) ≡ true
    go true e = home first a l (subst (λ (z : Stream). side a l z <ℤ pos 0) (sym (same_equal first k e)) t) (let v = h.level in omega order)
    go false e = step first a l k [] t o (home first l k (turn_up l k first kl (sym h.level) (atop_apart h (same_no first k e)))
        (≤ℤ_of-≡ (sym h.level)))

walk_below : {S : Samples} (first : Stream) (G : List Stream → Stream → Type 0)
    → ((k l : Stream) (X : List Stream) → Edge S (mirrored k) (mirrored l) → Ready first l k X → G (l ∷ k ∷ X) l)
    → (k l : Stream) (X L : List Stream) → Goes S (mirrored k) (mirrored l ∷ map mirrored L) → Ready first l k X
    → G (reverse_aux L (l ∷ k ∷ X)) (far_end l L)
walk_below first G end k l X [] g r = end k l X (goes_edge g) r
walk_below first G end k l X (n ∷ L) g r = walk_below first G end l n (k ∷ X) L (goes_next g)
    (λ a t o. step first a n l (leave_last (some first) (k ∷ X)) t o (r n turn (inr (goes_edge g).ahead)))
  where
    turn : side n l k <ℤ pos 0
    turn = turn_unmirrored n l k (goes_turn g)

-- ---- east, above

walk_above : {S : Samples} (first : Stream) (D : List Stream) {a b : Stream} {C : List Stream} → Edge S a b → Turn a b C → Goes S b C
    → ((c : Stream) → Edge S c (far_end b C) → goes_round first c (far_end b C) D ≡ true) → goes_round first a b (C ++ D) ≡ true
walk_above first D {a} e t (stop r) f = f a e
walk_above first D {a} {b} e t (on {q = c} {C} d u g) f = step first a b c (C ++ D) t (inl e.ahead) (walk_above first D d u g f)

-- ---- all the way

-- at the upper right end m, come to from a: the lower one is left out, or stands straight below
right_turn : {S : Samples} → Wide S → (first a m k l : Stream) (X : List Stream) → Edge S a m → Edge (Through mirrored S) (mirrored k) (mirrored l)
    → Atop m l → Ready first l k X → goes_round first a m (leave_last (some first) (leave_first (some m) (l ∷ k ∷ X))) ≡ true
right_turn {S} w first a m k l X e d h r = go (same m l) refl
  where
    go : (s : Bool) → same m l ≡ s → goes_round first a m (leave_last (some first) (cond s (k ∷ X) (l ∷ k ∷ X))) ≡ true
    go true q = subst (λ (z : Stream). goes_round first a z (leave_last (some first) (k ∷ X)) ≡ true) (sym ml)
        (r a (turn_at_right_end a k l al d w) (inl al.ahead))
      where
        ml : m ≡ l
        ml = same_equal m l q

        al : Edge S a l
        al = subst (Edge S a) ml e
    go false q = step first a m l (leave_last (some first) (k ∷ X)) (turn_down a m l e.ahead h.level below) (inl e.ahead)
        (r m (turn_west m l k h.level below d.ahead) (inr d.ahead))
      where
        below : l.north <ℤ m.north
        below = atop_apart h (same_no m l q)

-- the positions of both lists
abbrev Both : List Stream → List Stream → Samples
Both C D s = Of C s ⊎ Of D s

goes_all_round : {u q l x : Stream} {C L : List Stream} → Fit u (q ∷ C) l (x ∷ L) → Wide (Both (u ∷ q ∷ C) (l ∷ x ∷ L))
    → goes_round u u q (C ++ leave_last (some u) (leave_first (last_of (q ∷ C)) (reverse (l ∷ x ∷ L)))) ≡ true
goes_all_round {u} {q} {l} {x} {C} {L} f w = subst (λ (z : Option Stream). goes_round u u q (C ++ home_from z) ≡ true) (sym (last_far q C))
    (walk_above u (home_from (some m)) (goes_edge above) (goes_turn above) (goes_next above) back)
  where
    m : Stream
    m = far_end q C

    -- the corners below, from an upper right end on
    home_from : Option Stream → List Stream
    home_from z = leave_last (some u) (leave_first z (reverse (l ∷ x ∷ L)))

    S : Samples
    S = Both (u ∷ q ∷ C) (l ∷ x ∷ L)

    above : Goes S u (q ∷ C)
    above = upper_along [] (upper_fits f (λ s h. inl h) (λ s h. h))

    below : Goes (Through mirrored S) (mirrored l) (mirrored x ∷ map mirrored L)
    below = upper_along [] (upper_fits (fit_mirrored f) (λ s h. inr (map_in mirrored mirrored-twice (l ∷ x ∷ L) h))
        (λ s. ⊎_elim (λ h. inr (in_map mirrored mirrored-twice h)) (λ h. inl (in_map mirrored mirrored-twice h))))

    back : (a : Stream) → Edge S a m → goes_round u a m (home_from (some m)) ≡ true
    back a e = walk_below u (λ R n. Atop m n → goes_round u a m (leave_last (some u) (leave_first (some m) R)) ≡ true)
        (λ k n X d r h. right_turn w u a m k n X e d h r) l x [] L below (ready_first x f.left (goes_edge below).ahead) f.right

-- a third corner of either list makes the positions wide, and so do two lower ends that differ from the upper ones; else the ring has two corners
wide_or_two : (u q l x : Stream) (C L : List Stream) → Fit u (q ∷ C) l (x ∷ L)
    → Wide (Both (u ∷ q ∷ C) (l ∷ x ∷ L)) ⊎ (closed (u ∷ q ∷ C) (l ∷ x ∷ L) ≡ u ∷ q ∷ [])
unfolding closed
wide_or_two u q l x (c ∷ C) L f = inl (record {
  p = u;
  q = q;
  s = c;
  has_p = inl (Memᴰ.head refl);
  has_q = inl (Memᴰ.tail (Memᴰ.head refl));
  has_s = inl (Memᴰ.tail (Memᴰ.tail (Memᴰ.head refl)));
  bend = bends_turn f.above;
})
wide_or_two u q l x [] (y ∷ L) f = inl (record {
  p = y;
  q = x;
  s = l;
  has_p = inr (Memᴰ.tail (Memᴰ.tail (Memᴰ.head refl)));
  has_q = inr (Memᴰ.tail (Memᴰ.head refl));
  has_s = inr (Memᴰ.head refl);
  bend = turn_unmirrored y x l (bends_turn f.below);
})
wide_or_two u q l x [] [] f = go (same u l) (same q x) refl refl
  where
    uq : u.east <ℤ q.east
    uq = bends_ahead f.above

    wide : (s : Stream) → Of (l ∷ x ∷ []) s → side u q s <ℤ pos 0 → Wide (Both (u ∷ q ∷ []) (l ∷ x ∷ []))
    wide s m t = record {
      p = u;
      q = q;
      s = s;
      has_p = inl (Memᴰ.head refl);
      has_q = inl (Memᴰ.tail (Memᴰ.head refl));
      has_s = inr m;
      bend = t;
    }

    go : (b c : Bool) → same u l ≡ b → same q x ≡ c
        → Wide (Both (u ∷ q ∷ []) (l ∷ x ∷ [])) ⊎ (u ∷ q ∷ leave_last (some u) (cond (same q x) (l ∷ []) (x ∷ l ∷ [])) ≡ u ∷ q ∷ [])
    go true true d e = inr (ap (λ (s : Bool). u ∷ q ∷ leave_last (some u) (cond s (l ∷ []) (x ∷ l ∷ []))) e
        ∙ ap (λ (s : Bool). u ∷ q ∷ cond s [] (l ∷ [])) d)
    go true false d e = inl (wide x (Memᴰ.tail (Memᴰ.head refl))
        (at_second_strictly_below u q x uq f.right.level (atop_apart f.right (same_no q x e))))
    go false c d e = inl (wide l (Memᴰ.head refl) (at_first_strictly_below u q l uq f.left.level (atop_apart f.left (same_no u l d))))

-- two corners, and two or more, the second further east
two : (p q : Stream) → p.east <ℤ q.east → neighbourly (p ∷ q ∷ []) ≡ true
unfolding neighbourly leftmost
two p q h = yes_first_key p.east q.east q.north p.north h

many : (p q : Stream) (C : List Stream) → p.east <ℤ q.east → goes_round p p q C ≡ true → neighbourly (p ∷ q ∷ C) ≡ true
unfolding neighbourly
many p q [] h g = two p q h
many p q (c ∷ C) h g = yes_both (lt_test h) g

-- THE LAW: the ring that fitting lists close to passes the test
pub fit_passes : {u l : Stream} (U L : List Stream) → Fit u U l L → neighbourly (closed (u ∷ U) (l ∷ L)) ≡ true
unfolding neighbourly closed leftmost
fit_passes {u} {l} [] [] f = go (same u l) refl
  where
    go : (s : Bool) → same u l ≡ s → neighbourly (u ∷ leave_last (some u) (cond s [] (l ∷ []))) ≡ true
    go true e = refl
    go false e = subst (λ (s : Bool). neighbourly (u ∷ cond s [] (l ∷ [])) ≡ true) (sym e)
        (yes_second_key u.east l.east (sym f.left.level) (atop_apart f.left (same_no u l e)))
fit_passes [] (x ∷ L) f = let h = far_end_past f.below in let d = f.left.level in let e = (fit_mirrored f).right.level in absurd (omega order)
fit_passes (q ∷ C) [] f = let h = far_end_past f.above in let d = f.left.level in let e = f.right.level in absurd (omega order)
fit_passes {u} {l} (q ∷ C) (x ∷ L) f =
    ⊎_elim (λ w. many u q rest uq (goes_all_round f w)) (λ e. subst (λ (r : List Stream). neighbourly r ≡ true) (sym e) (two u q uq))
    (wide_or_two u q l x C L f)
  where
    rest : List Stream
    rest = C ++ leave_last (some u) (leave_first (last_of (q ∷ C)) (reverse (l ∷ x ∷ L)))

    uq : u.east <ℤ q.east
    uq = bends_ahead f.above
