-- Two chains merged are the chain of the sums: each new edge has all samples of both sets below it, since what lies west of a corner is below every way
-- that is less steep than the last one. So the sum of two rings is two merges, closed. Assumes nothing.
use Rattle.std.specs.Prelude.{◌≡◌, List, [], ◌∷◌, ℤ, pos, ◌+ℤ◌, ◌≤ℤ◌, ◌<ℤ◌}
use Rattle.std.proofs.Common.{sym, ap, ap₂, ◌∙◌, subst, ⊎_elim}
use Rattle.std.specs.Int.Signed.{clash_ℤ}
use Rattle.whole.specs.Linear.{order, sum, negation}
use Rattle.whole.specs.Laws.{≤ℤ_total, ≤ℤ_of-≡, ≤ℤ_antisym, <ℤ→≤ℤ}
use Rattle.rules.specs.Streams.{Stream}
use Rattle.rules.specs.Chain.{Samples, LeftEnd, RightEnd, Edge, Turn, Goes, stop, on, UpperChain, empty, starts, upper}
use Rattle.rules.specs.Use.{added, sums}
use Rattle.laws_outline.specs.Chains.{upper_is, upper_only, goes_given}
use Rattle.laws_outline.specs.SameOutline.{same-samples}
use Rattle.laws_sums.specs.Sums.{Sum, sum_of, sums_members}
use Rattle.laws_sums.specs.Ways.{bend, bend-side, bend_itself, bend_crossed, bend_nowhere, bend-over, bend_next, bend-added, west_below, east-below, level-below, level_strictly_below, at-corner-below}
use Rattle.laws_sums.specs.Merge.{merge, Less, Onward, Merges, over, first, second, both, merge-is}

-- ---- the past of a chain that has come to p

-- the samples of S that do not lie east of p are below every way of the kind K through it
abbrev Settled : Samples → (Stream → Stream → Type 0) → Stream → Type 0
Settled S K p = (a b : Stream) → a.east <ℤ b.east → K a b → (s : Stream) → S s → s.east ≤ℤ p.east → bend a b p s ≤ℤ pos 0

-- all samples of S are below the way ab through p
abbrev Below : Samples → Stream → Stream → Stream → Type 0
Below S a b p = (s : Stream) → S s → bend a b p s ≤ℤ pos 0

-- at the start, whatever the way
start_settled : {S : Samples} {p : Stream} → LeftEnd S p → Settled S (λ a b. Unit {0}) p
start_settled {p = p} l a b ab k s m w = let e = ≤ℤ_antisym w (l.least s m) in at-corner-below a b p s ab e (l.greatest s m e)

-- below a way, then below every less steep one
below_settled : {S : Samples} (a b p : Stream) → a.east <ℤ b.east → Below S a b p → Settled S (Less a b) p
below_settled a b p ab h c d cd k s m w = west_below c d a b p s cd ab (<ℤ→≤ℤ k) w (h s m)

-- a way of the kind through p that its own next edge is no steeper than
all-below : {S : Samples} {K : Stream → Stream → Type 0} {p : Stream} {C : List Stream} (a b : Stream) → a.east <ℤ b.east → K a b
    → Settled S K p → Goes S p C → Onward (λ u v. bend a b u v ≤ℤ pos 0) p C → Below S a b p
all-below {S} {p = p} a b ab k past g n s m = ⊎_elim (past a b ab k s m) (λ h. ahead g n h) (≤ℤ_total s.east p.east)
  where
    ahead : {C : List Stream} → Goes S p C → Onward (λ u v. bend a b u v ≤ℤ pos 0) p C → p.east <ℤ s.east → bend a b p s ≤ℤ pos 0
    ahead (stop r) n h = clash_ℤ h (r.most s m)
    ahead (on {q = q} e t g) n h = east-below a b p q p s ab e.ahead n (<ℤ→≤ℤ h) (subst (λ (z : ℤ). z ≤ℤ pos 0) (sym (bend-side p q s)) (e.below s m))

-- ---- one step: each chain goes along the way ab, or stays

-- what is below the way through p is below it through a corner p' along it
below_along : {S : Samples} (a b p p' : Stream) → bend a b p p' ≡ pos 0 → Below S a b p → Below S a b p'
below_along a b p p' e h s m = let g = h s m in let k = bend-over a b p p' s in omega (order, sum (bend a b p p') (bend a b p' s))

module _ {S T : Samples} (a b : Stream) (ab : a.east <ℤ b.east) (p p' u u' : Stream) (pp : bend a b p p' ≡ pos 0) (uu : bend a b u u' ≡ pos 0)
    (bs : Below S a b p) (bt : Below T a b u) (ahead : (p.east +ℤ u.east) <ℤ (p'.east +ℤ u'.east)) where
  along : bend a b (added p u) (added p' u') ≡ pos 0
  along = bend-added a b p p' u u' ∙ ap₂ ◌+ℤ◌ pp uu

  sums-below : (s : Stream) → Sum S T s → bend a b (added p u) s ≤ℤ pos 0
  sums-below s m =
      let x = m.first in
      let y = m.second in
      let e = ap (bend a b (added p u)) m.adds ∙ bend-added a b p x u y in
      let h = bs x m.of_first in
      let k = bt y m.of_second in
      omega (order, sum (bend a b p x) (bend a b u y))

  step-edge : S p → T u → S p' → T u' → Edge (Sum S T) (added p u) (added p' u')
  step-edge sp tu sp' tu' = record {
    from = sum_of p u sp tu;
    to = sum_of p' u' sp' tu';
    ahead = ahead;
    below = λ s m. subst (λ (z : ℤ). z ≤ℤ pos 0) (bend-side (added p u) (added p' u') s)
        (level-below a b (added p u) (added p' u') (added p u) s ab ahead along (sums-below s m));
  }

  step-turn : (M : List Stream) → Onward (Less a b) (added p' u') M → Turn (added p u) (added p' u') M
  step-turn [] h = tt
  step-turn (r ∷ M) h =
      subst (λ (z : ℤ). z <ℤ pos 0) (bend_next (added p u) (added p' u') r)
      (level_strictly_below a b (added p u) (added p' u') (added p' u') r ab ahead along h)

  -- so the chain of the sums goes on, if it does from there
  stepped : S p → T u → S p' → T u' → (M : List Stream) → Onward (Less a b) (added p' u') M
      → (Settled S (Less a b) p' → Settled T (Less a b) u' → Goes (Sum S T) (added p' u') M) → Goes (Sum S T) (added p u) (added p' u' ∷ M)
  stepped sp tu sp' tu' M n g =
      on (step-edge sp tu sp' tu') (step-turn M n) (g (below_settled a b p' ab (below_along a b p p' pp bs)) (below_settled a b u' ab (below_along a b u u' uu bt)))

-- ---- all steps

-- what is merged from two chains that go on less steep goes on less steep
merges_onward : {p u : Stream} {C D M : List Stream} (a b : Stream) → Merges p C u D M → Onward (Less a b) p C → Onward (Less a b) u D
    → Onward (Less a b) (added p u) M
merges_onward a b over h k = tt
merges_onward a b (first {p} {q} {u} n m) h k =
    let e = bend-added a b p q u u in let z = bend_nowhere a b u in omega (order, sum (bend a b p q) (bend a b u u))
merges_onward a b (second {p} {u} {v} n m) h k =
    let e = bend-added a b p p u v in let z = bend_nowhere a b p in omega (order, sum (bend a b p p) (bend a b u v))
merges_onward a b (both {p} {q} {u} {v} n m) h k =
    let e = bend-added a b p q u v in omega (order, sum (bend a b p q) (bend a b u v))

onward_weaker : {K L : Stream → Stream → Type 0} → ((u v : Stream) → K u v → L u v) → (p : Stream) (C : List Stream) → Onward K p C → Onward L p C
onward_weaker f p [] h = tt
onward_weaker f p (q ∷ C) h = f p q h

-- a chain that turns at q, come to from p, goes on less steep than pq
turn_onward : (p q : Stream) (C : List Stream) → Turn p q C → Onward (Less p q) q C
turn_onward p q [] t = tt
turn_onward p q (r ∷ C) t = subst (λ (z : ℤ). z <ℤ pos 0) (sym (bend_next p q r)) t

-- a sum at the east of p and u together is of streams at the easts of both, where neither goes past it
module _ {S T : Samples} (p u : Stream) {s : Stream} (m : Sum S T s) where
  sum-east : s.east ≡ m.first.east +ℤ m.second.east
  sum-east = ap (λ (o : Stream). o.east) m.adds

  sum-greatest : (m.first.east ≡ p.east → m.first.north ≤ℤ p.north) → (m.second.east ≡ u.east → m.second.north ≤ℤ u.north)
      → (m.first.east ≡ p.east) × (m.second.east ≡ u.east) → s.north ≤ℤ (p.north +ℤ u.north)
  sum-greatest h k e =
      let n = ap (λ (o : Stream). o.north) m.adds in
      let c = h e.0 in
      let d = k e.1 in
      omega (order, sum p.north u.north, sum m.first.north m.second.north)

right_end : {S T : Samples} {p u : Stream} → RightEnd S p → RightEnd T u → RightEnd (Sum S T) (added p u)
right_end {S} {T} {p} {u} h k = record {
  given = sum_of p u h.given k.given;
  most = λ s m. (reach s m (h.most m.first m.of_first) (k.most m.second m.of_second)).0;
  greatest = λ s m e. sum-greatest p u m (h.greatest m.first m.of_first) (k.greatest m.second m.of_second)
      ((reach s m (h.most m.first m.of_first) (k.most m.second m.of_second)).1 e);
}
  where
    reach : (s : Stream) (m : Sum S T s) → m.first.east ≤ℤ p.east → m.second.east ≤ℤ u.east
        → (s.east ≤ℤ (p.east +ℤ u.east)) × (s.east ≡ p.east +ℤ u.east → (m.first.east ≡ p.east) × (m.second.east ≡ u.east))
    reach s m a b = let e = sum-east p u m in let c = sum p.east u.east in let d = sum m.first.east m.second.east in
        (omega (order, c, d), λ f. (omega (order, c, d), omega (order, c, d)))

left_end : {S T : Samples} {p u : Stream} → LeftEnd S p → LeftEnd T u → LeftEnd (Sum S T) (added p u)
left_end {S} {T} {p} {u} h k = record {
  given = sum_of p u h.given k.given;
  least = λ s m. (reach s m (h.least m.first m.of_first) (k.least m.second m.of_second)).0;
  greatest = λ s m e. sum-greatest p u m (h.greatest m.first m.of_first) (k.greatest m.second m.of_second)
      ((reach s m (h.least m.first m.of_first) (k.least m.second m.of_second)).1 e);
}
  where
    reach : (s : Stream) (m : Sum S T s) → p.east ≤ℤ m.first.east → u.east ≤ℤ m.second.east
        → ((p.east +ℤ u.east) ≤ℤ s.east) × (s.east ≡ p.east +ℤ u.east → (m.first.east ≡ p.east) × (m.second.east ≡ u.east))
    reach s m a b = let e = sum-east p u m in let c = sum p.east u.east in let d = sum m.first.east m.second.east in
        (omega (order, c, d), λ f. (omega (order, c, d), omega (order, c, d)))

no_steeper : (a b : Stream) → (u v : Stream) → Less a b u v → bend a b u v ≤ℤ pos 0
no_steeper a b u v h = <ℤ→≤ℤ h

merged_goes : {S T : Samples} (K : Stream → Stream → Type 0) {p u : Stream} {C D M : List Stream} → Merges p C u D M → Settled S K p → Settled T K u
    → Onward K p C → Onward K u D → Goes S p C → Goes T u D → Goes (Sum S T) (added p u) M
merged_goes K over x y kp ku (stop h) (stop k) = stop (right_end h k)
merged_goes {S} {T} K (first {p} {q} {u} {C} {D} {M} n m) x y kp ku (on e t g) h =
    stepped p q e.ahead p q u u (bend_itself p q) (bend_nowhere p q u)
    (all-below p q e.ahead kp x (on e t g) (≤ℤ_of-≡ (bend_itself p q)))
    (all-below p q e.ahead kp y h (onward_weaker (no_steeper p q) u D n))
    (let a = e.ahead in omega (order, sum p.east u.east, sum q.east u.east))
    e.from (goes_given h) e.to (goes_given h) M (merges_onward p q m (turn_onward p q C t) n)
    (λ x' y'. merged_goes (Less p q) m x' y' (turn_onward p q C t) n g h)
merged_goes {S} {T} K (second {p} {u} {v} {C} {D} {M} n m) x y kp ku g (on f w h) =
    stepped u v f.ahead p p u v (bend_nowhere u v p) (bend_itself u v)
    (all-below u v f.ahead ku x g (onward_weaker (no_steeper u v) p C n))
    (all-below u v f.ahead ku y (on f w h) (≤ℤ_of-≡ (bend_itself u v)))
    (let a = f.ahead in omega (order, sum p.east u.east, sum p.east v.east))
    (goes_given g) f.from (goes_given g) f.to M (merges_onward u v m n (turn_onward u v D w))
    (λ x' y'. merged_goes (Less u v) m x' y' n (turn_onward u v D w) g h)
merged_goes {S} {T} K (both {p} {q} {u} {v} {C} {D} {M} z m) x y kp ku (on e t g) (on f w h) =
    stepped p q e.ahead p q u v (bend_itself p q) z
    (all-below p q e.ahead kp x (on e t g) (≤ℤ_of-≡ (bend_itself p q)))
    (all-below p q e.ahead kp y (on f w h) (≤ℤ_of-≡ z))
    (let a = e.ahead in let b = f.ahead in omega (order, sum p.east u.east, sum q.east v.east))
    e.from f.from e.to f.to M (merges_onward p q m (turn_onward p q C t) less)
    (λ x' y'. merged_goes (Less p q) m x' y' (turn_onward p q C t) less g h)
  where
    level : bend u v p q ≡ pos 0
    level = let c = bend_crossed p q u v in omega (order, negation (bend p q u v))

    less : Onward (Less p q) v D
    less = onward_weaker (λ r s l. level_strictly_below u v p q r s f.ahead e.ahead level l) v D (turn_onward u v D w)

-- THE LAW: the chain of the sums is the two chains merged
pub merged-chain : {S T : Samples} {C D : List Stream} → UpperChain S C → UpperChain T D → UpperChain (Sum S T) (merge C D)
unfolding merge
merged-chain (empty f) d = empty (λ s m. f m.first m.of_first)
merged-chain (starts l g) (empty f) = empty (λ s m. f m.second m.of_second)
merged-chain (starts {p} {C} l g) (starts {p = u} {C = D} k h) =
    starts (left_end l k) (merged_goes (λ a b. Unit {0}) (merge-is p C u D) (start_settled l) (start_settled k) (any p C) (any u D) g h)
  where
    any : (p : Stream) (C : List Stream) → Onward (λ a b. Unit {0}) p C
    any p [] = tt
    any p (q ∷ C) = tt

pub upper-sums : (r t : List Stream) → upper (sums r t) ≡ merge (upper r) (upper t)
upper-sums r t =
    upper_only (same-samples (λ s. (sums_members r t s).1) (λ s. (sums_members r t s).0) (merged-chain (upper_is r) (upper_is t)))
