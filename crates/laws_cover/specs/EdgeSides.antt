-- The sides of a ring, from corner to corner and back to the first: no sample lies left of any of them.
-- Assumes nothing.
use Rattle.std.specs.Prelude.{◌≡◌, Bool, true, false, cond, ℤ, pos, ◌≤ℤ◌}
use Rattle.std.proofs.Math.Path.{refl}
use Rattle.std.proofs.Common.{sym, subst}
use Rattle.std.proofs.Math.Option.{some}
use mathlib.Core.List.{List, [], ◌∷◌, ◌++◌, map, Memᴰ}
use Rattle.std.proofs.Math.IntN.{neg_ℤ}
use Rattle.std.specs.Int.Signed.{le_z}
use Rattle.whole.specs.Linear.{order, negation}
use Rattle.whole.specs.Laws.{test-le, le_test}
use Rattle.whole.specs.Solver.{num, ◌⊖◌, east, north, tri}
use Rattle.whole.specs.Certificate.{◌⊞◌, ◌⊠◌, scaled, from-≤, from-≡, conclude-≤}
use Rattle.rules.specs.Streams.{Stream, side, same, turned}
use Rattle.rules.specs.Chain.{Samples, Of, LeftEnd, RightEnd, Goes, stop, on, UpperChain, empty, starts}
use Rattle.rules.specs.Ring.{last_of, leave_first, leave_last, ring}
use Rattle.rules.specs.Use.{beside}
use Rattle.laws_outline.specs.ListLaws.{both_yes, yes_both}
use Rattle.laws_outline.specs.SamePosition.{same_equal}
use Rattle.laws_outline.specs.Sidedness.{side_turned_about, turned-twice}
use Rattle.laws_outline.specs.Under.{Through}
use Rattle.laws_outline.specs.Chains.{upper_is}
use Rattle.laws_outline.specs.SameOutline.{upper_through}
use Rattle.laws_rings.specs.Halves.{around, ring_halves}

-- ---- ways from corner to corner

-- E holds of each side on the way from p over the corners ps to z
abbrev pub Way : (Stream → Stream → Type 0) → Stream → List Stream → Stream → Type 0
Way E p [] z = E p z
Way E p (q ∷ ps) z = E p q × Way E q ps z

-- and on the way all round
abbrev pub Sides : (Stream → Stream → Type 0) → List Stream → Type 0
Sides E [] = Unit {0}
Sides E (p ∷ ps) = Way E p ps p

-- s is not left of the way from p to q; and no sample is
abbrev pub NotLeft : Stream → Stream → Stream → Type 0
NotLeft s p q = side p q s ≤ℤ pos 0

abbrev pub NoneLeft : Samples → Stream → Stream → Type 0
NoneLeft S p q = (s : Stream) → S s → NotLeft s p q

module _ (E : Stream → Stream → Type 0) where
  way-append : (p : Stream) (ps : List Stream) (q : Stream) (qs : List Stream) (z : Stream) → Way E p ps q → Way E q qs z → Way E p (ps ++ (q ∷ qs)) z
  way-append p [] q qs z v w = (v, w)
  way-append p (t ∷ ps) q qs z v w = (v.0, way-append t ps q qs z v.1 w)

  -- what holds of each side, and what follows from it
  pub way_as : (D : Stream → Stream → Type 0) → ((p q : Stream) → E p q → D p q) → (p : Stream) (ps : List Stream) (z : Stream) → Way E p ps z → Way D p ps z
  way_as D f p [] z w = f p z w
  way_as D f p (q ∷ ps) z w = (f p q w.0, way_as D f q ps z w.1)

  -- a corner at the one before it, or a last one at the end, may be left out
  way_leave_first : (p : Stream) (ps R : List Stream) (z : Stream) → Way E p (ps ++ R) z → Way E p (ps ++ leave_first (last_of (p ∷ ps)) R) z
  way_leave_first p [] [] z w = w
  way_leave_first p [] (q ∷ R) z w = go (same p q) refl
    where
      go : (b : Bool) → same p q ≡ b → Way E p (cond b R (q ∷ R)) z
      go true e = subst (λ (t : Stream). Way E t R z) (sym (same_equal p q e)) w.1
      go false e = w
  way_leave_first p (t ∷ ps) R z w = (w.0, way_leave_first t ps R z w.1)

  way_leave_last : (p : Stream) (ps R : List Stream) (z : Stream) → Way E p (ps ++ R) z → Way E p (ps ++ leave_last (some z) R) z
  way_leave_last p [] [] z w = w
  way_leave_last p [] (q ∷ []) z w = go (same z q) refl
    where
      go : (b : Bool) → same z q ≡ b → Way E p (cond b [] (q ∷ [])) z
      go true e = subst (E p) (sym (same_equal z q e)) w.0
      go false e = w
  way_leave_last p [] (q ∷ t ∷ R) z w = (w.0, way_leave_last q [] (t ∷ R) z w.1)
  way_leave_last p (t ∷ ps) R z w = (w.0, way_leave_last t ps R z w.1)

-- ---- the sides of a ring

-- T has the samples of S, turned about
module _ {S T : Samples} (to : (s : Stream) → S s → T (turned s)) (back : (s : Stream) → T s → S (turned s)) where
  -- the upper right end stands at the lower one, or straight above it
  down : {m w : Stream} → RightEnd S m → LeftEnd T w → NoneLeft S m (turned w)
  unfolding side
  down {m} {w} r l s h =
      let ρ = m.east ∷ m.north ∷ (turned w).east ∷ (turned w).north ∷ s.east ∷ s.north ∷ [] in
      conclude-≤ (from-≤ ρ (north 1) (north 0) (r.greatest (turned w) (back w l.given) level) ⊠ from-≤ ρ (east 2) (east 0) (r.most s h)
      ⊞ scaled (from-≡ ρ (east 1) (east 0) level) (north 2 ⊖ north 0)) (tri 0 1 2) (num (pos 0)) refl
    where
      level : neg_ℤ w.east ≡ m.east
      level =
          let a : w.east ≤ℤ neg_ℤ m.east = l.least (turned m) (to m r.given) in
          let b : neg_ℤ w.east ≤ℤ m.east = r.most (turned w) (back w l.given) in
          omega (order, negation w.east, negation m.east)

  -- along the upper chain, and down
  half : {a w : Stream} {U : List Stream} → Goes S a U → LeftEnd T w → Way (NoneLeft S) a U (turned w)
  half (stop r) l = down r l
  half (on e t g) l = (e.below, half g l)

  -- the same below: that half is one of T, turned about
  turned-side : (p q : Stream) → NoneLeft T p q → NoneLeft S (turned p) (turned q)
  turned-side p q h s m =
      subst (λ (t : Stream). side (turned p) (turned q) t ≤ℤ pos 0) (turned-twice s)
      (subst (λ (z : ℤ). z ≤ℤ pos 0) (sym (side_turned_about p q (turned s))) (h (turned s) (to s m)))

  way-turned : (p : Stream) (ps : List Stream) (z : Stream) → Way (NoneLeft T) p ps z → Way (NoneLeft S) (turned p) (map turned ps) (turned z)
  way-turned p [] z w = turned-side p z w
  way-turned p (q ∷ ps) z w = (turned-side p q w.0, way-turned q ps z w.1)

-- THE LAW: no sample is left of a side of its ring
pub ring-sides : (xs : List Stream) → Sides (NoneLeft (Of xs)) (ring xs)
ring-sides xs = subst (Sides (NoneLeft (Of xs))) (sym (ring_halves xs)) (go (upper_is xs) (upper_through turned turned-twice xs))
  where
    to : (s : Stream) → Memᴰ s xs → Memᴰ (turned (turned s)) xs
    to s m = subst (λ (t : Stream). Memᴰ t xs) (sym (turned-twice s)) m

    E : Stream → Stream → Type 0
    E p q = NoneLeft (Of xs) p q

    go : {U W : List Stream} → UpperChain (Of xs) U → UpperChain (Through turned (Of xs)) W → Sides E (around U (map turned W))
    go (empty f) (empty k) = tt
    go (empty f) (starts {p = w} k d) = absurd (f (turned w) k.given)
    go (starts {p = a} {C = U} l g) (empty f) = absurd (f (turned a) (to a l.given))
    go (starts {p = a} {C = U} l g) (starts {p = w} {C = W} k d) =
        way_leave_last E a U (leave_first (last_of (a ∷ U)) (map turned (w ∷ W))) a
        (way_leave_first E a U (map turned (w ∷ W)) a
        (way-append E a U (turned w) (map turned W) a (half to (λ s m. m) g k)
        (subst (Way E (turned w) (map turned W)) (turned-twice a) (way-turned to (λ s m. m) w W (turned a) (half (λ s m. m) to d l)))))

-- ---- the test of the rules

module _ (s first : Stream) where
  pub beside-way : (p : Stream) (ps : List Stream) → beside s first p ps ≡ true → Way (NotLeft s) p ps first
  unfolding beside
  beside-way p [] e = test-le (side p first s) (pos 0) e
  beside-way p (q ∷ ps) e =
      let b = both_yes (le_z (side p q s) (pos 0)) (beside s first q ps) e in (test-le (side p q s) (pos 0) b.0, beside-way q ps b.1)

  pub way_beside : (p : Stream) (ps : List Stream) → Way (NotLeft s) p ps first → beside s first p ps ≡ true
  unfolding beside
  way_beside p [] w = le_test w
  way_beside p (q ∷ ps) w = yes_both (le_test w.0) (way_beside q ps w.1)
