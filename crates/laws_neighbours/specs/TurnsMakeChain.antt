-- From three neighbours to all: a list that goes east and turns strictly right at each corner is the upper chain of its own positions, and where it turns
-- left instead, every corner is under its two ends.
-- Assumes nothing.
use Rattle.std.specs.Prelude.{◌≡◌, refl, ◌⊎◌, List, [], ◌∷◌, map, ℤ, pos, ◌≤ℤ◌, ◌<ℤ◌}
use Rattle.std.proofs.Common.{sym, ap, ◌∙◌, subst, inl, inr, ⊎_elim}
use mathlib.Core.List.Memᴰ
use Rattle.std.proofs.Math.Option.{some}
use Rattle.std.specs.Int.Signed.{≤ℤ_refl, <ℤ-≤ℤ_trans, clash_ℤ}
use Rattle.whole.specs.Linear.{order}
use Rattle.whole.specs.Laws.{≤ℤ_of-≡, ≤ℤ_antisym, <ℤ_trans, <ℤ→≤ℤ}
use Rattle.rules.specs.Streams.{Stream, side, mirrored}
use Rattle.rules.specs.Chain.{Samples, Of, LeftEnd, Edge, Turn, Goes, stop, on, UpperChain, starts}
use Rattle.rules.specs.Ring.{last_of}
use Rattle.laws_outline.specs.Sidedness.{side_of_first, side-turned, side_crossed, side-mirrored, before_turn, past-turn, at-second-below}
use Rattle.laws_outline.specs.Chains.{upper-edge}
use Rattle.laws_outline.specs.Under.{Under, on_trans, under-between}

-- ---- a list that goes east, from p over C, and turns strictly right at each corner

pub data Bends : Stream → List Stream → Type 0 where
  ends : {p : Stream} → Bends p []
  bends : {p q : Stream} {C : List Stream} → p.east <ℤ q.east → Turn p q C → Bends q C → Bends p (q ∷ C)

-- its last corner
abbrev pub far_end : Stream → List Stream → Stream
far_end p [] = p
far_end p (q ∷ C) = far_end q C

pub far_end_ahead : {p : Stream} {C : List Stream} → Bends p C → p.east ≤ℤ (far_end p C).east
far_end_ahead {p} ends = ≤ℤ_refl p.east
far_end_ahead {p} (bends {q} {C} h t b) = let g = far_end_ahead b in omega order

pub far_end_past : {p q : Stream} {C : List Stream} → Bends p (q ∷ C) → p.east <ℤ (far_end q C).east
far_end_past (bends h t b) = <ℤ-≤ℤ_trans h (far_end_ahead b)

pub far_end_given : (p : Stream) (C : List Stream) → Of (p ∷ C) (far_end p C)
far_end_given p [] = Memᴰ.head refl
far_end_given p (q ∷ C) = Memᴰ.tail (far_end_given q C)

pub last_far : (p : Stream) (C : List Stream) → last_of (p ∷ C) ≡ some (far_end p C)
last_far p [] = refl
last_far p (q ∷ C) = last_far q C

-- its first side, and its first turn
pub bends_ahead : {p q : Stream} {C : List Stream} → Bends p (q ∷ C) → p.east <ℤ q.east
bends_ahead (bends h t b) = h

pub bends_turn : {p q : Stream} {C : List Stream} → Bends p (q ∷ C) → Turn p q C
bends_turn (bends h t b) = t

-- ---- one corner p more, west of all others

module _ (xs : List Stream) (p : Stream) where
  -- what holds of the others and of p
  with_first : (P : Stream → Type 0) → P p → ((s : Stream) → Of xs s → P s) → (s : Stream) → Of (p ∷ xs) s → P s
  with_first P h f s m = ⊎_elim (λ e. subst P (sym e) h) (λ n. f s n) (Memᴰ.cases_cons m)

  -- below the edge that comes to q, p is below those that follow
  goes_on : (a : Stream) {q : Stream} {C : List Stream} → a.east <ℤ q.east → p.east <ℤ q.east → side a q p ≤ℤ pos 0 → Turn a q C
      → Goes (Of xs) q C → Goes (Of (p ∷ xs)) q C
  goes_on a {q} aq pq b t (stop r) = stop (record {
    given = Memᴰ.tail r.given;
    most = with_first (λ s. s.east ≤ℤ q.east) (<ℤ→≤ℤ pq) r.most;
    greatest = with_first (λ s. s.east ≡ q.east → s.north ≤ℤ q.north) (λ e. clash_ℤ pq (≤ℤ_of-≡ (sym e))) r.greatest;
  })
  goes_on a {q} aq pq b t (on {q = c} e u g) = on (record {
    from = Memᴰ.tail e.from;
    to = Memᴰ.tail e.to;
    ahead = e.ahead;
    below = with_first (λ s. side q c s ≤ℤ pos 0) k e.below;
  }) u (goes_on q e.ahead (<ℤ_trans pq e.ahead) k u g)
    where
      k : side q c p ≤ℤ pos 0
      k = before_turn a q c p aq e.ahead (<ℤ→≤ℤ t) (<ℤ→≤ℤ pq) b

  -- the others are below the edge from p to their left end q
  first_below : {q : Stream} {C : List Stream} → p.east <ℤ q.east → Turn p q C → LeftEnd (Of xs) q → Goes (Of xs) q C → (s : Stream) → Of xs s
      → side p q s ≤ℤ pos 0
  first_below {q} pq t l (stop r) s m = let e = ≤ℤ_antisym (r.most s m) (l.least s m) in at-second-below p q s pq e (r.greatest s m e)
  first_below {q} pq t l (on {q = c} e u g) s m = past-turn p q c s pq e.ahead (<ℤ→≤ℤ t) (l.least s m) (e.below s m)

  first-corner : {q : Stream} {C : List Stream} → p.east <ℤ q.east → Turn p q C → UpperChain (Of xs) (q ∷ C) → UpperChain (Of (p ∷ xs)) (p ∷ q ∷ C)
  first-corner {q} {C} pq t (starts l g) = starts left (on edge t (goes_on p pq pq (≤ℤ_of-≡ (side_of_first p q)) t g))
    where
      left : LeftEnd (Of (p ∷ xs)) p
      left = record {
        given = Memᴰ.head refl;
        least = with_first (λ s. p.east ≤ℤ s.east) (≤ℤ_refl p.east)
            (λ s m. <ℤ→≤ℤ (<ℤ-≤ℤ_trans pq (l.least s m)));
        greatest = with_first (λ s. s.east ≡ p.east → s.north ≤ℤ p.north)
            (λ e. ≤ℤ_refl p.north) (λ s m e. clash_ℤ (<ℤ-≤ℤ_trans pq (l.least s m)) (≤ℤ_of-≡ e));
      }

      edge : Edge (Of (p ∷ xs)) p q
      edge = record {
        from = Memᴰ.head refl;
        to = Memᴰ.tail l.given;
        ahead = pq;
        below = with_first (λ s. side p q s ≤ℤ pos 0) (≤ℤ_of-≡ (side_of_first p q)) (first_below pq t l g);
      }

-- THE LAW: such a list is the upper chain of its own positions
pub bending_chain : {p : Stream} {C : List Stream} → Bends p C → UpperChain (Of (p ∷ C)) (p ∷ C)
bending_chain {p} ends = starts (record { given = Memᴰ.head refl; least = λ s m. ≤ℤ_of-≡ (sym (level m)); greatest = top })
    (stop (record { given = Memᴰ.head refl; most = λ s m. ≤ℤ_of-≡ (level m); greatest = top }))
  where
    level : {s : Stream} → Of (p ∷ []) s → s.east ≡ p.east
    level m = ap (λ (t : Stream). t.east) (Memᴰ.eq_of_singleton m)

    top : (s : Stream) → Of (p ∷ []) s → s.east ≡ p.east → s.north ≤ℤ p.north
    top s m e = ≤ℤ_of-≡ (ap (λ (t : Stream). t.north) (Memᴰ.eq_of_singleton m))
bending_chain {p} (bends {q} {C} h t b) = first-corner (q ∷ C) p h t (bending_chain b)

-- ---- a list that, mirrored, turns strictly right, is under its ends

-- mirrored and in reverse order three corners turn as they did
turn-mirrored : (a b c : Stream) → side (mirrored c) (mirrored b) (mirrored a) ≡ side a b c
turn-mirrored a b c = side-mirrored c b a ∙ sym (side_crossed c b a) ∙ side-turned c a b

pub mirrored-turn : (a b c : Stream) → side a b c <ℤ pos 0 → side (mirrored c) (mirrored b) (mirrored a) <ℤ pos 0
mirrored-turn a b c h = subst (λ (z : ℤ). z <ℤ pos 0) (sym (turn-mirrored a b c)) h

pub turn_unmirrored : (a b c : Stream) → side (mirrored c) (mirrored b) (mirrored a) <ℤ pos 0 → side a b c <ℤ pos 0
turn_unmirrored a b c h = subst (λ (z : ℤ). z <ℤ pos 0) (turn-mirrored a b c) h

pub far_end_map : (f : Stream → Stream) (p : Stream) (C : List Stream) → far_end (f p) (map f C) ≡ f (far_end p C)
far_end_map f p [] = refl
far_end_map f p (q ∷ C) = far_end_map f q C

pub sags : {T : Samples} (p : Stream) (C : List Stream) → Bends (mirrored p) (map mirrored C) → Under T p → Under T (far_end p C) → (s : Stream)
    → Of (p ∷ C) s → Under T s
sags {T} p [] b u v s m = subst (Under T) (sym (Memᴰ.eq_of_singleton m)) u
sags {T} p (q ∷ C) (bends h t b) u v s m = ⊎_elim (λ e. subst (Under T) (sym e) u) (λ n. sags q C b w v s n) (Memᴰ.cases_cons m)
  where
    far : q.east ≤ℤ (far_end q C).east
    far = subst (λ (z : Stream). q.east ≤ℤ z.east) (far_end_map mirrored q C) (far_end_ahead b)

    below : side p (far_end q C) q ≤ℤ pos 0
    below = subst (λ (z : ℤ). z ≤ℤ pos 0) (side-mirrored p q (far_end q C) ∙ sym (side_crossed p q (far_end q C)))
        ((upper-edge [] (mirrored p) (mirrored q) (map mirrored C) (bending_chain (bends h t b))).below (mirrored (far_end q C))
        (Memᴰ.map mirrored (far_end_given p (q ∷ C))))

    Ends : Samples
    Ends z = (z ≡ p) ⊎ (z ≡ far_end q C)

    w : Under T q
    w = on_trans (λ z. ⊎_elim (λ e. subst (Under T) (sym e) u) (λ e. subst (Under T) (sym e) v))
        (under-between {T = Ends} p (far_end q C) q (inl refl) (inr refl) (<ℤ-≤ℤ_trans h far) (<ℤ→≤ℤ h) far below)
