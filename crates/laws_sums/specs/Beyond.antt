-- The limit: a ring has a corner beyond it exactly if a stream behind it is, and a sum has one exactly if on a plain course, east, west, north or south, the
-- strongest corners of both rings add up beyond it. Assumes nothing.
use Rattle.std.specs.Prelude.{◌≡◌, ◌⊎◌, Bool, true, false, not, ◌&&◌, ◌||◌, suc, ℤ, pos, negsuc, neg_ℤ, ◌≤ℤ◌, ◌<ℤ◌}
use Rattle.std.proofs.Common.{sym, ap, ◌∙◌, subst, inl, inr, ⊎_elim, leb-false}
use Rattle.std.proofs.Math.Bool.{and-false, or-true}
use mathlib.Core.List.{List, Memᴰ}
use Rattle.std.specs.Int.Signed.{<ℤ-≤ℤ_trans}
use Rattle.std.proofs.lemmas.Bool.{lt-leb, not-true}
use Rattle.whole.specs.Linear.{order, negation}
use Rattle.whole.specs.Laws.{≤ℤ_of-≡, ≤ℤ_trans, +ℤ_mono}
use Rattle.rules.specs.Lists.{some_of}
use Rattle.rules.specs.Streams.{Stream, limit, within, beyond}
use Rattle.rules.specs.Chain.{Of}
use Rattle.rules.specs.Ring.{ring}
use Rattle.rules.specs.Use.{set_on, added, sums, sum}
use Rattle.laws_outline.specs.ListLaws.{one_no, one_yes, same_true, some_of_is, is_some_of}
use Rattle.laws_outline.specs.Sidedness.{set_eastward, set_westward, set_northward, set_southward}
use Rattle.laws_rings.specs.Rings.{ring-sample, sample-behind}
use Rattle.laws_sums.specs.Sums.{Sum, sum_of, set-added, sums_in, sums_members}

-- ---- beyond the limit, by the four plain courses

pub data Plain : ℤ → ℤ → Type 0 where
  eastward : Plain (pos 1) (pos 0)
  westward : Plain (negsuc 0) (pos 0)
  northward : Plain (pos 0) (pos 1)
  southward : Plain (pos 0) (negsuc 0)

-- on some plain course the stream sets stronger than the limit
pub record Far (s : Stream) : Type 0 where
  pub x : ℤ
  pub y : ℤ
  pub plain : Plain x y
  pub far : pos limit <ℤ set_on x y s

part_far : (z : ℤ) → within z ≡ false → (pos limit <ℤ z) ⊎ (pos limit <ℤ neg_ℤ z)
unfolding within
part_far (pos n) e = inl (omega (order, leb-false n limit e))
part_far (negsuc n) e = inr (omega (order, leb-false (suc n) limit e, negation (negsuc n)))

far_above : (z : ℤ) → pos limit <ℤ z → within z ≡ false
unfolding within
far_above (pos n) h = lt-leb n limit (omega order)
far_above (negsuc n) h = absurd (omega order)

far_below : (z : ℤ) → pos limit <ℤ neg_ℤ z → within z ≡ false
unfolding within
far_below (pos n) h = absurd (omega (order, negation (pos n)))
far_below (negsuc n) h = lt-leb (suc n) limit (omega (order, negation (negsuc n)))

is_far : (s : Stream) → beyond s ≡ true → Far s
unfolding beyond
is_far s e =
    ⊎_elim
    (λ h. ⊎_elim (by eastward (set_eastward s)) (by westward (set_westward s)) (part_far s.east h))
    (λ h. ⊎_elim (by northward (set_northward s)) (by southward (set_southward s)) (part_far s.north h))
    (one_no (within s.east) (within s.north) (not-true (within s.east && within s.north) e))
  where
    by : {x y z : ℤ} → Plain x y → set_on x y s ≡ z → pos limit <ℤ z → Far s
    by {x} {y} c q h = record { x = x; y = y; plain = c; far = subst (λ (a : ℤ). pos limit <ℤ a) (sym q) h }

pub course-beyond : (s : Stream) {x y : ℤ} → Plain x y → pos limit <ℤ set_on x y s → beyond s ≡ true
unfolding beyond
course-beyond s c h = go c h
  where
    told : {z a : ℤ} → a ≡ z → pos limit <ℤ a → pos limit <ℤ z
    told q k = subst (λ (b : ℤ). pos limit <ℤ b) q k

    by_east : within s.east ≡ false → not (within s.east && within s.north) ≡ true
    by_east e = ap (λ (b : Bool). not (b && within s.north)) e

    by_north : within s.north ≡ false → not (within s.east && within s.north) ≡ true
    by_north e = ap (λ (b : Bool). not (within s.east && b)) e ∙ ap not (and-false (within s.east))

    go : {x y : ℤ} → Plain x y → pos limit <ℤ set_on x y s → not (within s.east && within s.north) ≡ true
    go eastward k = by_east (far_above s.east (told (set_eastward s) k))
    go westward k = by_east (far_below s.east (told (set_westward s) k))
    go northward k = by_north (far_above s.north (told (set_northward s) k))
    go southward k = by_north (far_below s.north (told (set_southward s) k))

-- ---- a ring and the streams behind it

pub ring-beyond : (xs : List Stream) → some_of beyond (ring xs) ≡ some_of beyond xs
ring-beyond xs = same_true (some_of beyond (ring xs)) (some_of beyond xs)
    (λ e. let s = some_of_is beyond (ring xs) e in is_some_of beyond (ring-sample xs s.1) s.2)
    (λ e. let s = some_of_is beyond xs e in further s.1 (is_far s.0 s.2))
  where
    further : {s : Stream} → Memᴰ s xs → Far s → some_of beyond (ring xs) ≡ true
    further m f =
        let t = (sample-behind xs m).stronger f.x f.y tt in
        is_some_of beyond t.1 (course-beyond t.0 f.plain (<ℤ-≤ℤ_trans f.far t.2))

-- ---- the sum of two rings

-- s is a sum that no other sets stronger than on the course (x, y)
pub record Outermost (x y : ℤ) (r t : List Stream) (s : Stream) : Type 0 where
  pub given : Sum (Of r) (Of t) s
  pub most : (o : Stream) → Sum (Of r) (Of t) o → set_on x y o ≤ℤ set_on x y s

-- the strongest of the one added to the strongest of the other
pub outermost : (x y : ℤ) {r t : List Stream} {p q : Stream} → Memᴰ p r → ((s : Stream) → Memᴰ s r → set_on x y s ≤ℤ set_on x y p)
    → Memᴰ q t → ((s : Stream) → Memᴰ s t → set_on x y s ≤ℤ set_on x y q) → Outermost x y r t (added p q)
outermost x y {r} {t} {p} {q} m f n g = record { given = sum_of p q m n; most = most }
  where
    most : (o : Stream) → Sum (Of r) (Of t) o → set_on x y o ≤ℤ set_on x y (added p q)
    most o a =
        ≤ℤ_trans (≤ℤ_of-≡ (ap (set_on x y) a.adds ∙ set-added x y a.first a.second))
        (≤ℤ_trans (+ℤ_mono (f a.first a.of_first) (g a.second a.of_second)) (≤ℤ_of-≡ (sym (set-added x y p q))))

first_yes : (b c : Bool) → b ≡ true → (b || c) ≡ true
first_yes b c e = ap (λ (t : Bool). t || c) e

later_yes : (b c : Bool) → c ≡ true → (b || c) ≡ true
later_yes b c e = ap (λ (t : Bool). b || t) e ∙ or-true b

-- THE LAW: 19 by the four outermost sums, one for each plain course
module _ {r t : List Stream} {e w n s : Stream} (east : Outermost (pos 1) (pos 0) r t e) (west : Outermost (negsuc 0) (pos 0) r t w)
    (north : Outermost (pos 0) (pos 1) r t n) (south : Outermost (pos 0) (negsuc 0) r t s) where
  outer_beyond : {o : Stream} → Sum (Of r) (Of t) o → Far o → (beyond e || (beyond w || (beyond n || beyond s))) ≡ true
  outer_beyond {o} m f = go f.plain f.far
    where
      further : {x y : ℤ} {q : Stream} → Plain x y → Outermost x y r t q → pos limit <ℤ set_on x y o → beyond q ≡ true
      further {q = q} c h k = course-beyond q c (<ℤ-≤ℤ_trans k (h.most o m))

      go : {x y : ℤ} → Plain x y → pos limit <ℤ set_on x y o → (beyond e || (beyond w || (beyond n || beyond s))) ≡ true
      go eastward k = first_yes (beyond e) (beyond w || (beyond n || beyond s)) (further eastward east k)
      go westward k =
          later_yes (beyond e) (beyond w || (beyond n || beyond s)) (first_yes (beyond w) (beyond n || beyond s) (further westward west k))
      go northward k =
          later_yes (beyond e) (beyond w || (beyond n || beyond s))
          (later_yes (beyond w) (beyond n || beyond s) (first_yes (beyond n) (beyond s) (further northward north k)))
      go southward k =
          later_yes (beyond e) (beyond w || (beyond n || beyond s))
          (later_yes (beyond w) (beyond n || beyond s) (later_yes (beyond n) (beyond s) (further southward south k)))

  is_outer : (beyond e || (beyond w || (beyond n || beyond s))) ≡ true → some_of beyond (sums r t) ≡ true
  is_outer h =
      ⊎_elim (yes east) (λ h. ⊎_elim (yes west) (λ h. ⊎_elim (yes north) (yes south) (one_yes (beyond n) (beyond s) h)) (one_yes (beyond w) (beyond n || beyond s) h))
      (one_yes (beyond e) (beyond w || (beyond n || beyond s)) h)
    where
      yes : {x y : ℤ} {q : Stream} → Outermost x y r t q → beyond q ≡ true → some_of beyond (sums r t) ≡ true
      yes {q = q} o b = is_some_of beyond ((sums_members r t q).1 o.given) b

  pub sum_beyond : some_of beyond (sum r t) ≡ (beyond e || (beyond w || (beyond n || beyond s)))
  unfolding sum
  sum_beyond =
      ring-beyond (sums r t)
      ∙ same_true (some_of beyond (sums r t)) (beyond e || (beyond w || (beyond n || beyond s)))
      (λ b. let o = some_of_is beyond (sums r t) b in outer_beyond (sums_in r t o.1) (is_far o.0 o.2)) is_outer
