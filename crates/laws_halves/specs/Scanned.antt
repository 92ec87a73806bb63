-- The halves of an envelope by places, as its easts tell them: the first goes from place 0 to the last place up to which easts rise, the other on from
-- there, or from the next place where that stands at the same east, to the last place, or to place 0 again where the last corner stands further east.
-- Assumes nothing.
use Rattle.std.specs.Prelude.{◌≡◌, refl, ◌⊎◌, Bool, true, false, cond, ◌&&◌, ℕ, zero, suc, ◌+◌, ◌-◌, ◌≤◌, ◌<◌, ltb, eqb, ℤ, pos, neg_ℤ, ◌≤ℤ◌, ◌<ℤ◌, length}
use Rattle.std.proofs.Common.{sym, ap, ap₂, ◌∙◌, subst, subst₂, inl, inr, ⊎_elim, zero-add, arith, lt-ltb, le-ltb, eq-eqb, ne_eqb}
use Rattle.std.proofs.Math.Bool.{and-false}
use mathlib.Core.List.Memᴰ
use mathlib.Core.List.{List, [], ◌∷◌, ◌++◌, map, Memᴰ}
use Rattle.std.proofs.Math.Decide.{dec_lt}
use Rattle.std.specs.Int.Signed.{clash_ℤ}
use Rattle.std.proofs.lemmas.List.{length-map}
use Rattle.std.proofs.Math.ListN.{get_or-append, get_or-map}
use Rattle.std.proofs.Math.Seq.{get_or-append_seam}
use Rattle.whole.specs.Linear.{order, negation}
use Rattle.whole.specs.Laws.{≤ℤ_of-≡, <ℤ→≢, <ℤ→≤ℤ, negℤ-<ℤ, eq_test, ne_test}
use Rattle.rules.specs.Streams.{Stream, stream, sample, same, turned, eqZ}
use Rattle.rules.specs.Chain.{Samples, Of, LeftEnd, RightEnd, Goes, stop, on, UpperChain, empty, starts, upper}
use Rattle.rules.specs.Use.{envelope}
use Rattle.laws_outline.specs.ListLaws.{at_place_in, map_in, yes_both}
use Rattle.laws_outline.specs.SamePosition.{same_no}
use Rattle.laws_outline.specs.Sidedness.{turned-twice}
use Rattle.laws_outline.specs.Chains.{upper_is, goes_east}
use Rattle.laws_rings.specs.Rings.{envelope-ring}
use Rattle.laws_rings.specs.Halves.{half, around, ring_halves}
use Rattle.laws_halves.specs.Cut.{Cut, around-cut}

-- the corner at a place, place 0 again after the last
abbrev pub corner : List Stream → ℕ → Stream
corner r i = sample r (cond (eqb i (length r)) 0 i)

-- a half stands from a place on, and goes over n sides
pub record HalfAt (back : Bool) (r : List Stream) (from n : ℕ) : Type 0 where
  pub within : from + n ≤ length r
  pub count : length (half back r) ≡ suc n
  pub at : (i : ℕ) → i ≤ n → sample (half back r) i ≡ corner r (from + i)

-- what a scan of m easts finds: k, the last place up to which they rise, c, where the other half starts, and over how many sides it goes
pub record Scanned (E : ℕ → ℤ) (m k c n : ℕ) : Type 0 where
  pub inside : k < m
  pub rising : (i : ℕ) → i < k → E i <ℤ E (suc i)
  pub crest : (m ≡ suc k) ⊎ (E (suc k) ≤ℤ E k)
  pub second : c ≡ cond (ltb (suc k) m && eqZ (E (suc k)) (E k)) (suc k) k
  pub last : c + n ≡ cond (eqZ (E (m - 1)) (E 0)) (m - 1) m

-- the easts of a ring
abbrev pub east_at : List Stream → ℕ → ℤ
east_at r i = (sample r i).east

-- ---- chains by places

pub goes_rises : {S : Samples} {p : Stream} {C : List Stream} → Goes S p C → (i : ℕ) → i < length C → (sample (p ∷ C) i).east <ℤ (sample (p ∷ C) (suc i)).east
goes_rises (stop h) i l = absurd (omega arith)
goes_rises (on e t g) zero l = e.ahead
goes_rises (on e t g) (suc i) l = goes_rises g i (omega arith)

goes_end : {S : Samples} {p : Stream} {C : List Stream} → Goes S p C → RightEnd S (sample (p ∷ C) (length C))
goes_end (stop h) = h
goes_end (on e t g) = goes_end g

goes_far : {S : Samples} {p : Stream} {C : List Stream} → Goes S p C → (length C ≡ 0) ⊎ (p.east <ℤ (sample (p ∷ C) (length C)).east)
goes_far {C = []} g = inl refl
goes_far {C = q ∷ C} g = inr (goes_east g (sample (q ∷ C) (length C)) (at_place_in (q ∷ C) (length C) (stream (pos 0) (pos 0)) (omega arith)))

-- the left end of some samples stands at the east of the right end of the same turned about
ends_meet : {S T : Samples} → ((s : Stream) → S s → T (turned s)) → ((s : Stream) → T s → S (turned s)) → {a y : Stream} → LeftEnd S a → RightEnd T y
    → neg_ℤ y.east ≡ a.east
ends_meet to back {a} {y} l r =
    let h : a.east ≤ℤ neg_ℤ y.east = l.least (turned y) (back y r.given) in
    let k : neg_ℤ a.east ≤ℤ y.east = r.most (turned a) (to a l.given) in
    omega (order, negation y.east, negation a.east)

-- ---- the scan finds the halves

module _ {r : List Stream} {a : Stream} {U : List Stream} {d : Stream} {R : List Stream} {c : ℕ} (cut : Cut r a U d R c)
    (rises : (i : ℕ) → i < length U → (sample (a ∷ U) i).east <ℤ (sample (a ∷ U) (suc i)).east)
    (falls : (i : ℕ) → i < length R → (sample (d ∷ R) (suc i)).east <ℤ (sample (d ∷ R) i).east)
    (right : d.east ≡ (sample (a ∷ U) (length U)).east) (left : (sample (d ∷ R) (length R)).east ≡ a.east)
    (far : (length U ≡ 0) ⊎ (a.east <ℤ (sample (a ∷ U) (length U)).east)) where
  -- of equal streams the easts are equal
  level : {p q : Stream} → p ≡ q → p.east ≡ q.east
  level e = ap (λ (s : Stream). s.east) e

  above : (i : ℕ) → i ≤ length U → east_at r i ≡ (sample (a ∷ U) i).east
  above i h = level (cut.upper_at i h)

  behind : (i : ℕ) → i ≤ length R → c + i < length r → east_at r (c + i) ≡ (sample (d ∷ R) i).east
  behind i h l = level (sym (get_or-append r (a ∷ []) (stream (pos 0) (pos 0)) (c + i) l) ∙ cut.back_at i h)

  -- the way back ends at the first corner, where it goes past the last place
  home : length r ≡ c + length R → sample (d ∷ R) (length R) ≡ a
  home e = sym (cut.back_at (length R) (omega arith)) ∙ ap (sample (r ++ (a ∷ []))) (sym e) ∙ get_or-append_seam r a [] (stream (pos 0) (pos 0))

  alone : length R ≡ 0 → sample (d ∷ R) (length R) ≡ d
  alone e = ap (sample (d ∷ R)) e

  second_in : c < length r
  second_in = ⊎_elim (λ e. let h = cut.upper_in in omega arith) two cut.second
    where
      -- the lower right end would be the first corner
      met : d ≡ a → same (sample (a ∷ U) (length U)) d ≡ false → (length U ≡ 0) ⊎ (a.east <ℤ (sample (a ∷ U) (length U)).east) → ⊥
      met e n (inl z) = same_no (sample (a ∷ U) (length U)) d n (ap (sample (a ∷ U)) z ∙ sym e)
      met e n (inr l) = clash_ℤ l (≤ℤ_of-≡ (sym right ∙ level e))

      two : (c ≡ suc (length U)) × (same (sample (a ∷ U) (length U)) d ≡ false) → c < length r
      two s = go (dec_lt c (length r))
        where
          go : Dec (c < length r) → c < length r
          go (yes h) = h
          go (no h) = ⊎_elim
              (λ e. let z : length R ≡ 0 = omega arith in absurd (met (sym (alone z) ∙ home e) s.1 far))
              (λ e. omega arith) cut.count

  fall_after : c ≡ length U → suc (length U) < length r → east_at r (suc (length U)) <ℤ east_at r (length U)
  fall_after e h =
      let some : 0 < length R = ⊎_elim (λ n. omega arith) (λ n. omega arith) cut.count in
      let p : c + 1 ≡ suc (length U) = omega arith in
      let x = behind 1 some (omega arith) in
      let y = falls 0 some in
      let w = above (length U) (omega arith) in
      let v : east_at r (c + 1) ≡ east_at r (suc (length U)) = ap (east_at r) p in
      omega order

  level-after : c ≡ suc (length U) → east_at r (suc (length U)) ≡ east_at r (length U)
  level-after e =
      let p : c + 0 ≡ suc (length U) = omega arith in
      let h = second_in in
      sym (ap (east_at r) p) ∙ behind 0 (omega arith) (omega arith) ∙ right ∙ sym (above (length U) (omega arith))

  no_rise : suc (length U) < length r → east_at r (suc (length U)) ≤ℤ east_at r (length U)
  no_rise h = ⊎_elim (λ e. <ℤ→≤ℤ (fall_after e h)) (λ e. ≤ℤ_of-≡ (level-after e.0)) cut.second

  module _ {k c' n : ℕ} (s : Scanned (east_at r) (length r) k c' n) where
    first_ends : k ≡ length U
    first_ends = go (dec_lt k (length U)) (dec_lt (length U) k)
      where
        inside : k < length r
        inside = s.inside

        go : Dec (k < length U) → Dec (length U < k) → k ≡ length U
        go (yes h) d =
            ⊎_elim (λ e. absurd (let l = cut.upper_in in omega arith))
            (λ e. let x = above k (omega arith) in let y = above (suc k) h in let w = rises k h in absurd (omega order)) s.crest
        go (no h) (yes l) = clash_ℤ (s.rising (length U) l) (no_rise (omega arith))
        go (no h) (no l) = omega arith

  module _ {c' n : ℕ} (s : Scanned (east_at r) (length r) (length U) c' n) where
    -- the places that the two tests choose from
    abbrev begins : Bool → ℕ
    begins b = cond b (suc (length U)) (length U)

    abbrev stops : Bool → ℕ
    stops b = cond b (length r - 1) (length r)

    second_starts : c' ≡ c
    second_starts = s.second ∙ ⊎_elim one two cut.second
      where
        one : c ≡ length U → begins (ltb (suc (length U)) (length r) && eqZ (east_at r (suc (length U))) (east_at r (length U))) ≡ c
        one e = go (dec_lt (suc (length U)) (length r)) ∙ sym e
          where
            go : Dec (suc (length U) < length r) → begins (ltb (suc (length U)) (length r) && eqZ (east_at r (suc (length U))) (east_at r (length U))) ≡ length U
            go (yes h) = ap begins (ap (λ (b : Bool). ltb (suc (length U)) (length r) && b) (ne_test (<ℤ→≢ (fall_after e h))) ∙ and-false (ltb (suc (length U)) (length r)))
            go (no h) = ap (λ (b : Bool). begins (b && eqZ (east_at r (suc (length U))) (east_at r (length U)))) (le-ltb (suc (length U)) (length r) (omega arith))

        two : (c ≡ suc (length U)) × (same (sample (a ∷ U) (length U)) d ≡ false)
            → begins (ltb (suc (length U)) (length r) && eqZ (east_at r (suc (length U))) (east_at r (length U))) ≡ c
        two e = ap begins (yes_both (lt-ltb (suc (length U)) (length r) (let h = second_in in let p = e.0 in omega arith)) (eq_test (level-after e.0))) ∙ sym e.0

    second-ends : n ≡ length R
    second-ends = let e = s.last ∙ ⊎_elim one two cut.count in let q = second_starts in omega arith
      where
        inside : c < length r
        inside = second_in

        first : east_at r 0 ≡ a.east
        first = above 0 (omega arith)

        one : length r ≡ c + length R → stops (eqZ (east_at r (length r - 1)) (east_at r 0)) ≡ c + length R
        one e =
            let i = length R - 1 in
            let p : c + i ≡ length r - 1 = omega (arith, inside) in
            let q : suc i ≡ length R = omega (arith, inside) in
            let x = behind i (omega (arith, inside)) (omega (arith, inside)) in
            let y = falls i (omega (arith, inside)) in
            let w : (sample (d ∷ R) (suc i)).east ≡ a.east = level (ap (sample (d ∷ R)) q ∙ home e) in
            let v : east_at r (c + i) ≡ east_at r (length r - 1) = ap (east_at r) p in
            let u : east_at r 0 <ℤ east_at r (length r - 1) = omega (order, first) in
            ap stops (ne_test (λ g. <ℤ→≢ u (sym g))) ∙ e

        two : length r ≡ suc (c + length R) → stops (eqZ (east_at r (length r - 1)) (east_at r 0)) ≡ c + length R
        two e =
            let p : length r - 1 ≡ c + length R = omega arith in
            ap stops (eq_test (ap (east_at r) p ∙ behind (length R) (omega arith) (omega arith) ∙ left ∙ sym first)) ∙ p

-- ---- the halves of an envelope

-- in the ring and back to its first corner a place has the corner that it stands for
corner_at : (r : List Stream) (a : Stream) (j : ℕ) → sample r 0 ≡ a → j ≤ length r → corner r j ≡ sample (r ++ (a ∷ [])) j
corner_at r a j e h = go (dec_lt j (length r))
  where
    go : Dec (j < length r) → corner r j ≡ sample (r ++ (a ∷ [])) j
    go (yes l) =
        ap (λ (b : Bool). sample r (cond b 0 j)) (ne_eqb j (length r) (λ q. absurd (omega arith))) ∙ sym (get_or-append r (a ∷ []) (stream (pos 0) (pos 0)) j l)
    go (no l) =
        let q : j ≡ length r = omega arith in
        ap (λ (b : Bool). sample r (cond b 0 j)) (eq-eqb j (length r) q) ∙ e ∙ sym (get_or-append_seam r a [] (stream (pos 0) (pos 0)))
        ∙ ap (sample (r ++ (a ∷ []))) (sym q)

module _ (r : List Stream) (a : Stream) (U : List Stream) (w : Stream) (W : List Stream) (u : upper r ≡ a ∷ U) (v : upper (map turned r) ≡ w ∷ W)
    (g : Goes (Of r) a U) (l : LeftEnd (Of r) a) (h : Goes (Of (map turned r)) w W) (k : LeftEnd (Of (map turned r)) w) where
  turned-at : (i : ℕ) → sample (turned w ∷ map turned W) i ≡ turned (sample (w ∷ W) i)
  turned-at i = get_or-map turned (w ∷ W) i (stream (pos 0) (pos 0))

  falls : (i : ℕ) → i < length (map turned W) → (sample (turned w ∷ map turned W) (suc i)).east <ℤ (sample (turned w ∷ map turned W) i).east
  falls i n = rw (turned-at i, turned-at (suc i)) (negℤ-<ℤ (goes_rises h i (let e = length-map W turned in omega arith)))

  right : (turned w).east ≡ (sample (a ∷ U) (length U)).east
  right = let e = ends_meet (λ s m. map_in turned turned-twice r m) (λ s m. Memᴰ.map turned m) k (goes_end g) in
      omega (order, negation w.east, negation (sample (a ∷ U) (length U)).east)

  left : (sample (turned w ∷ map turned W) (length (map turned W))).east ≡ a.east
  left = rw (length-map W turned, turned-at (length W)) (ends_meet (λ s m. Memᴰ.map turned m) (λ s m. map_in turned turned-twice r m) l (goes_end h))

  module _ {c : ℕ} (cut : Cut r a U (turned w) (map turned W) c) where
    upper-half : HalfAt false r 0 (length U)
    upper-half = record {
      within = let n = cut.upper_in in omega arith;
      count = ap length u;
      at = λ i n. ap (λ (C : List Stream). sample C i) u ∙ sym (cut.upper_at i n)
          ∙ ap (λ (b : Bool). sample r (cond b 0 i)) (sym (ne_eqb i (length r) (λ q. absurd (omega (arith, n, cut.upper_in))))) ∙ ap (corner r) (sym (zero-add i));
    }

    fits : c + length (map turned W) ≤ length r
    fits = ⊎_elim (λ n. omega arith) (λ n. omega arith) cut.count

    back-half : HalfAt true r c (length (map turned W))
    back-half = record {
      within = fits;
      count = ap (λ (C : List Stream). length (map turned C)) v;
      at = λ i n. ap (λ (C : List Stream). sample (map turned C) i) v ∙ sym (cut.back_at i n)
          ∙ sym (corner_at r a (c + i) (cut.upper_at 0 (omega arith)) (omega (arith, fits)));
    }

    found : {k m n : ℕ} → Scanned (east_at r) (length r) k m n → HalfAt false r 0 k × HalfAt true r m n
    found {k} {m} {n} s = (
      subst (HalfAt false r 0) (sym first) upper-half,
      subst₂ (HalfAt true r) (sym (second_starts cut (goes_rises g) falls right left (goes_far g) t))
          (sym (second-ends cut (goes_rises g) falls right left (goes_far g) t)) back-half,
    )
      where
        first : k ≡ length U
        first = first_ends cut (goes_rises g) falls right left (goes_far g) s

        t : Scanned (east_at r) (length r) (length U) m n
        t = subst (λ (i : ℕ). Scanned (east_at r) (length r) i m n) first s

-- THE LAW: what the scan finds are the halves
pub scanned_halves : {r : List Stream} {k c n : ℕ} → envelope r ≡ true → Scanned (east_at r) (length r) k c n → HalfAt false r 0 k × HalfAt true r c n
scanned_halves {r} {k} {c} {n} e s = go (upper_is r) (upper_is (map turned r)) refl refl
  where
    a_corner : Memᴰ (sample r 0) r
    a_corner = at_place_in r 0 (stream (pos 0) (pos 0)) (let h = s.inside in omega arith)

    go : {C D : List Stream} → UpperChain (Of r) C → UpperChain (Of (map turned r)) D → upper r ≡ C → upper (map turned r) ≡ D
        → HalfAt false r 0 k × HalfAt true r c n
    go (empty f) d u v = absurd (f (sample r 0) a_corner)
    go (starts l g) (empty f) u v = absurd (f (turned (sample r 0)) (Memᴰ.map turned a_corner))
    go (starts {p = a} {C = U} l g) (starts {p = w} {C = W} m h) u v =
        let whole = sym (ap₂ (λ (P Q : List Stream). around P (map turned Q)) u v) ∙ sym (ring_halves r) ∙ (envelope-ring r).0 e in
        let o = around-cut a U (turned w) (map turned W) in
        found r a U w W u v g l h m (subst (λ (q : List Stream). Cut q a U (turned w) (map turned W) o.0) whole o.1) s
