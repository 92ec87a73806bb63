-- The sum of two rings at its definition: sets on a course add, so from corners alone it is the envelope of every stream behind the one added to every
-- stream behind the other, in any order and grouping; it spreads over joins, and turns about with its parts. Assumes nothing.
use Rattle.std.specs.Prelude.{◌≡◌, ◌↔◌, true, ℤ, neg_ℤ, ◌+ℤ◌, ◌≤ℤ◌}
use Rattle.std.proofs.Math.Path.{refl}
use Rattle.std.proofs.Common.{sym, ap, ap₂, ◌∙◌, subst, ⊎_elim}
use mathlib.Core.List.Memᴰ
use mathlib.Core.List.{List, [], ◌∷◌, ◌++◌, map, map-append, append_assoc, Memᴰ}
use Rattle.std.proofs.Math.IntN.{+ℤ_comm, +ℤ_assoc}
use Rattle.whole.specs.Laws.{≤ℤ_of-≡, ≤ℤ_trans, +ℤ_mono}
use Rattle.whole.specs.Solver.{var, ◌⊕◌, ◌⊗◌, ⊝◌, ring as solved}
use Rattle.rules.specs.Streams.{Stream, stream, turned}
use Rattle.rules.specs.Chain.{Samples, Of}
use Rattle.rules.specs.Ring.{ring}
use Rattle.rules.specs.Use.{envelope, set_on, strongest, join, added, sums, sum, turn_about}
use Rattle.laws_outline.specs.Under.{Behind}
use Rattle.laws_outline.specs.SameOutline.{ring_equal, ring_members}
use Rattle.laws_rings.specs.Rings.{AllBehind, ring-behind, behind-ring, ring-envelope}
use Rattle.laws_rings.specs.FewestCorners.{no_samples}
use Rattle.laws_rings.specs.Joins.{itself_behind, join_rings}
use Rattle.laws_rings.specs.Turning.{turn-ring}
use Rattle.laws_rings.specs.Strongest.{strongest_of, strongest-most, strongest_only, strongest-ring}

-- ---- two streams added

pub set-added : (x y : ℤ) (p q : Stream) → set_on x y (added p q) ≡ set_on x y p +ℤ set_on x y q
unfolding set_on
set-added x y p q =
    solved (x ∷ y ∷ p.east ∷ p.north ∷ q.east ∷ q.north ∷ []) (var 0 ⊗ (var 2 ⊕ var 4) ⊕ var 1 ⊗ (var 3 ⊕ var 5))
    ((var 0 ⊗ var 2 ⊕ var 1 ⊗ var 3) ⊕ (var 0 ⊗ var 4 ⊕ var 1 ⊗ var 5)) refl

pub added_order : (p q : Stream) → added p q ≡ added q p
added_order p q = ap₂ stream (+ℤ_comm p.east q.east) (+ℤ_comm p.north q.north)

pub added_grouping : (p q s : Stream) → added (added p q) s ≡ added p (added q s)
added_grouping p q s = ap₂ stream (+ℤ_assoc p.east q.east s.east) (+ℤ_assoc p.north q.north s.north)

pub turned-added : (p q : Stream) → turned (added p q) ≡ added (turned p) (turned q)
turned-added p q = ap₂ stream (both p.east q.east) (both p.north q.north)
  where
    both : (a b : ℤ) → neg_ℤ (a +ℤ b) ≡ neg_ℤ a +ℤ neg_ℤ b
    both a b = solved (a ∷ b ∷ []) (⊝ (var 0 ⊕ var 1)) (⊝ var 0 ⊕ ⊝ var 1) refl

-- ---- the sums of two sets of streams, and of two lists

-- s is a stream of S added to one of T
pub record Sum (S T : Samples) (s : Stream) : Type 0 where
  pub first : Stream
  pub second : Stream
  pub of_first : S first
  pub of_second : T second
  pub adds : s ≡ added first second

pub sum_of : {S T : Samples} (p q : Stream) → S p → T q → Sum S T (added p q)
sum_of p q m n = record { first = p; second = q; of_first = m; of_second = n; adds = refl }

pub sum_swapped : {S T : Samples} {s : Stream} → Sum S T s → Sum T S s
sum_swapped a = record {
  first = a.second;
  second = a.first;
  of_first = a.of_second;
  of_second = a.of_first;
  adds = a.adds ∙ added_order a.first a.second;
}

pub sums_in : (r t : List Stream) {s : Stream} → Memᴰ s (sums r t) → Sum (Of r) (Of t) s
unfolding sums
sums_in [] t m = absurd (Memᴰ.not-nil m)
sums_in (p ∷ r) t {s} m = ⊎_elim here (λ n. later (sums_in r t n)) (Memᴰ.append_cases (map (added p) t) m)
  where
    here : Memᴰ s (map (added p) t) → Sum (Of (p ∷ r)) (Of t) s
    here n = let o = Memᴰ.of_map (added p) t n in
        record { first = p; second = o.0; of_first = Memᴰ.head refl; of_second = o.1; adds = sym o.2 }

    later : Sum (Of r) (Of t) s → Sum (Of (p ∷ r)) (Of t) s
    later a = record { first = a.first; second = a.second; of_first = Memᴰ.tail a.of_first; of_second = a.of_second; adds = a.adds }

pub in_sums : {p q : Stream} {t : List Stream} {r : List Stream} → Memᴰ p r → Memᴰ q t → Memᴰ (added p q) (sums r t)
unfolding sums
in_sums {p} {q} {t} (Memᴰ.head {x} {xs} e) n =
    Memᴰ.append_left (sums xs t) (Memᴰ.cast (ap (λ (o : Stream). added o q) e) (Memᴰ.map (added x) n))
in_sums {p} {q} {t} (Memᴰ.tail {x} {xs} m) n = Memᴰ.append_right (map (added x) t) (in_sums m n)

-- the list has these sums and no others
pub sums_members : (r t : List Stream) (s : Stream) → Memᴰ s (sums r t) ↔ Sum (Of r) (Of t) s
sums_members r t s = (sums_in r t, λ a. Memᴰ.cast a.adds (in_sums a.of_first a.of_second))

-- ---- lists behind lists

-- streams behind others and streams behind others add up to streams behind the sums
pub sums-behind : (r t u v : List Stream) → AllBehind r u → AllBehind t v → AllBehind (sums r t) (sums u v)
sums-behind r t u v b c s m = go (sums_in r t m)
  where
    go : Sum (Of r) (Of t) s → Behind (Of (sums u v)) s
    go a = record { stronger = λ x y k. stronger x y }
      where
        stronger : (x y : ℤ) → (o : Stream) × Memᴰ o (sums u v) × (set_on x y s ≤ℤ set_on x y o)
        stronger x y =
            let p = (b a.first a.of_first).stronger x y tt in
            let q = (c a.second a.of_second).stronger x y tt in
            (added p.0 q.0, in_sums p.1 q.1, no_stronger p.0 q.0 p.2 q.2)
          where
            no_stronger : (p q : Stream) → set_on x y a.first ≤ℤ set_on x y p → set_on x y a.second ≤ℤ set_on x y q → set_on x y s ≤ℤ set_on x y (added p q)
            no_stronger p q h k =
                ≤ℤ_trans (≤ℤ_of-≡ (ap (set_on x y) a.adds ∙ set-added x y a.first a.second))
                (≤ℤ_trans (+ℤ_mono h k) (≤ℤ_of-≡ (sym (set-added x y p q))))

pub same-sums : (r t u v : List Stream) → AllBehind r u → AllBehind u r → AllBehind t v → AllBehind v t → ring (sums r t) ≡ ring (sums u v)
same-sums r t u v b b' c c' = ring_equal (sums-behind r t u v b c) (sums-behind u v r t b' c')

-- THE LAW: from corners alone, the envelope of every stream behind the one added to every stream behind the other
pub sum_rings : (xs ys : List Stream) → sum (ring xs) (ring ys) ≡ ring (sums xs ys)
unfolding sum
sum_rings xs ys = same-sums (ring xs) (ring ys) xs ys (ring-behind xs) (behind-ring xs) (ring-behind ys) (behind-ring ys)

-- a ring and a list, either way round
sum_left : (xs ys : List Stream) → sum (ring xs) ys ≡ ring (sums xs ys)
unfolding sum
sum_left xs ys = same-sums (ring xs) ys xs ys (ring-behind xs) (behind-ring xs) (itself_behind ys) (itself_behind ys)

sum_right : (xs ys : List Stream) → sum xs (ring ys) ≡ ring (sums xs ys)
unfolding sum
sum_right xs ys = same-sums xs (ring ys) xs ys (itself_behind xs) (itself_behind xs) (ring-behind ys) (behind-ring ys)

pub sum-envelope : (r t : List Stream) → envelope (sum r t) ≡ true
unfolding sum
sum-envelope r t = ring-envelope (sums r t)

-- ---- order and grouping

sums_swapped : (r t : List Stream) {s : Stream} → Memᴰ s (sums r t) → Memᴰ s (sums t r)
sums_swapped r t {s} m = (sums_members t r s).1 (sum_swapped ((sums_members r t s).0 m))

pub sum_order : (r t : List Stream) → sum r t ≡ sum t r
unfolding sum
sum_order r t = ring_members (λ s. sums_swapped r t) (λ s. sums_swapped t r)

pub sums_grouping : (r t u : List Stream) {s : Stream} → Memᴰ s (sums (sums r t) u) ↔ Memᴰ s (sums r (sums t u))
sums_grouping r t u {s} = (λ m. right (sums_in (sums r t) u m), λ m. left (sums_in r (sums t u) m))
  where
    right : Sum (Of (sums r t)) (Of u) s → Memᴰ s (sums r (sums t u))
    right a = let b = sums_in r t a.of_first in
        Memᴰ.cast (a.adds ∙ ap (λ (o : Stream). added o a.second) b.adds ∙ added_grouping b.first b.second a.second)
        (in_sums b.of_first (in_sums b.of_second a.of_second))

    left : Sum (Of r) (Of (sums t u)) s → Memᴰ s (sums (sums r t) u)
    left a = let b = sums_in t u a.of_second in
        Memᴰ.cast (a.adds ∙ ap (added a.first) b.adds ∙ sym (added_grouping a.first b.first b.second))
        (in_sums (in_sums a.of_first b.of_first) b.of_second)

pub sum_grouping : (r t u : List Stream) → sum (sum r t) u ≡ sum r (sum t u)
unfolding sum
sum_grouping r t u =
    sum_left (sums r t) u ∙ ring_members (λ s. (sums_grouping r t u).0) (λ s. (sums_grouping r t u).1) ∙ sym (sum_right r (sums t u))

-- ---- over a join, and with an empty ring

sums_join : (r t u : List Stream) → sums (r ++ t) u ≡ sums r u ++ sums t u
unfolding sums
sums_join [] t u = refl
sums_join (p ∷ r) t u = ap (λ (l : List Stream). map (added p) u ++ l) (sums_join r t u) ∙ sym (append_assoc (map (added p) u) (sums r u) (sums t u))

pub sum-join-left : (r t u : List Stream) → sum (join r t) u ≡ join (sum r u) (sum t u)
unfolding sum join
sum-join-left r t u = sum_left (r ++ t) u ∙ ap ring (sums_join r t u) ∙ sym (join_rings (sums r u) (sums t u))

pub sum_join_right : (r t u : List Stream) → sum r (join t u) ≡ join (sum r t) (sum r u)
sum_join_right r t u = sum_order r (join t u) ∙ sum-join-left t u r ∙ ap₂ join (sum_order t r) (sum_order u r)

-- "Adding an empty ring gives an empty ring"
pub sum_empty_left : (t : List Stream) → sum [] t ≡ []
unfolding sum sums
sum_empty_left t = no_samples

pub sum_empty_right : (r : List Stream) → sum r [] ≡ []
sum_empty_right r = sum_order r [] ∙ sum_empty_left r

-- ---- turned about

pub sums-turned : (r t : List Stream) → map turned (sums r t) ≡ sums (map turned r) (map turned t)
unfolding sums
sums-turned [] t = refl
sums-turned (p ∷ r) t = map-append turned (map (added p) t) (sums r t) ∙ ap₂ ◌++◌ (row t) (sums-turned r t)
  where
    row : (t : List Stream) → map turned (map (added p) t) ≡ map (added (turned p)) (map turned t)
    row [] = refl
    row (q ∷ t) = ap₂ ◌∷◌ (turned-added p q) (row t)

pub turn-sum : (r t : List Stream) → turn_about (sum r t) ≡ sum (turn_about r) (turn_about t)
unfolding sum turn_about
turn-sum r t = turn-ring (sums r t) ∙ ap ring (sums-turned r t) ∙ sym (sum_rings (map turned r) (map turned t))

-- ---- the strongest set

module _ (x y : ℤ) (p : Stream) (ps : List Stream) (q : Stream) (qs : List Stream) where
  -- of all the sums
  sums-strongest : (s : Stream) (ss : List Stream) → sums (p ∷ ps) (q ∷ qs) ≡ s ∷ ss → strongest x y s ss ≡ strongest x y p ps +ℤ strongest x y q qs
  sums-strongest s ss e =
      strongest_only x y s ss (subst (Memᴰ (added a.0 b.0)) e (in_sums a.1 b.1)) most ∙ set-added x y a.0 b.0 ∙ sym (ap₂ ◌+ℤ◌ a.2 b.2)
    where
      a : (o : Stream) × Memᴰ o (p ∷ ps) × (strongest x y p ps ≡ set_on x y o)
      a = strongest_of x y p ps

      b : (o : Stream) × Memᴰ o (q ∷ qs) × (strongest x y q qs ≡ set_on x y o)
      b = strongest_of x y q qs

      most : (o : Stream) → Memᴰ o (s ∷ ss) → set_on x y o ≤ℤ set_on x y (added a.0 b.0)
      most o m = let c = sums_in (p ∷ ps) (q ∷ qs) (subst (Memᴰ o) (sym e) m) in
          ≤ℤ_trans (≤ℤ_of-≡ (ap (set_on x y) c.adds ∙ set-added x y c.first c.second))
          (≤ℤ_trans (+ℤ_mono (strongest-most x y p ps c.of_first) (strongest-most x y q qs c.of_second))
          (≤ℤ_of-≡ (ap₂ ◌+ℤ◌ a.2 b.2 ∙ sym (set-added x y a.0 b.0))))

  -- on every course the strongest set of a sum is the sum of the two strongest sets
  pub sum-strongest : (s : Stream) (ss : List Stream) → sum (p ∷ ps) (q ∷ qs) ≡ s ∷ ss → strongest x y s ss ≡ strongest x y p ps +ℤ strongest x y q qs
  unfolding sum sums
  sum-strongest s ss e = strongest-ring x y s ss (added p q) (map (added p) qs ++ sums ps (q ∷ qs)) e ∙ sums-strongest (added p q) (map (added p) qs ++ sums ps (q ∷ qs)) refl
