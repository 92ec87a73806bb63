-- A stream under a set of samples, by courses: on every course that does not point south some sample is at least as strong. What is under a set is on or
-- below its upper chain; said by courses it goes from set to set in one step.
-- Assumes nothing.
use Rattle.std.specs.Prelude.{◌≡◌, ℤ, pos, negsuc, neg_ℤ, ◌-ℤ◌, ◌≤ℤ◌, ◌<ℤ◌}
use Rattle.std.proofs.Common.{sym, subst, ⊎_elim}
use Rattle.std.specs.Int.Signed.{≤ℤ_refl, lt_z_yes}
use Rattle.whole.specs.Linear.{order, negation, sum}
use Rattle.whole.specs.Laws.{≤ℤ_total, ≤ℤ_trans, ≤ℤ_of-≡, <ℤ→≤ℤ, ≤ℤ→0≤}
use Rattle.rules.specs.Streams.{Stream, side, mirrored, turned}
use Rattle.rules.specs.Chain.{Samples}
use Rattle.rules.specs.Use.{set_on}
use Rattle.laws_outline.specs.Sidedness.{set-not-past, set-at-east, product-≤0, set-mirrored, set-turned, set_across, set_eastward, set_westward, set_northward, mirrored-twice, turned-twice}

-- ---- on the courses of a kind K some sample of T is at least as strong as s

pub record On (K : ℤ → ℤ → Type 0) (T : Samples) (s : Stream) : Type 0 where
  pub stronger : (x y : ℤ) → K x y → (t : Stream) × T t × (set_on x y s ≤ℤ set_on x y t)

-- the courses that do not point south, those that do not point north, and all
abbrev pub Northward : ℤ → ℤ → Type 0
Northward x y = pos 0 ≤ℤ y

abbrev pub Southward : ℤ → ℤ → Type 0
Southward x y = y ≤ℤ pos 0

abbrev pub Every : ℤ → ℤ → Type 0
Every x y = Unit {0}

abbrev pub Under : Samples → Stream → Type 0
Under T s = On Northward T s

abbrev pub Over : Samples → Stream → Type 0
Over T s = On Southward T s

abbrev pub Behind : Samples → Stream → Type 0
Behind T s = On Every T s

-- ---- from set to set

pub on_self : {K : ℤ → ℤ → Type 0} {T : Samples} {s : Stream} → T s → On K T s
on_self {s} h = record { stronger = λ x y k. (s, h, ≤ℤ_refl (set_on x y s)) }

pub on_inside : {K : ℤ → ℤ → Type 0} {S T : Samples} {s : Stream} → ((t : Stream) → S t → T t) → On K S s → On K T s
on_inside f h = record { stronger = λ x y k. let t = h.stronger x y k in (t.0, f t.0 t.1, t.2) }

pub on_trans : {K : ℤ → ℤ → Type 0} {S T : Samples} {p : Stream} → ((s : Stream) → S s → On K T s) → On K S p → On K T p
on_trans f h =
    record { stronger = λ x y k. let s = h.stronger x y k in let t = (f s.0 s.1).stronger x y k in (t.0, t.1, ≤ℤ_trans s.2 t.2) }

-- from kind to kind
pub on_fewer : {J K : ℤ → ℤ → Type 0} {T : Samples} {s : Stream} → ((x y : ℤ) → J x y → K x y) → On K T s → On J T s
on_fewer f h = record { stronger = λ x y j. h.stronger x y (f x y j) }

pub behind-under : {T : Samples} {s : Stream} → Behind T s → Under T s
behind-under h = on_fewer (λ x y j. tt) h

pub behind-over : {T : Samples} {s : Stream} → Behind T s → Over T s
behind-over h = on_fewer (λ x y j. tt) h

pub under-over : {T : Samples} {s : Stream} → Under T s → Over T s → Behind T s
under-over u o = record { stronger = λ x y k. ⊎_elim (λ h. u.stronger x y h) (λ h. o.stronger x y (<ℤ→≤ℤ h)) (≤ℤ_total (pos 0) y) }

-- ---- what lies under two samples, or one

-- between p and q by its east, and on or below the line pq
pub under-between : {T : Samples} (p q s : Stream) → T p → T q → p.east <ℤ q.east → p.east ≤ℤ s.east → s.east ≤ℤ q.east → side p q s ≤ℤ pos 0
    → Under T s
under-between p q s tp tq pq ps sq b =
    record { stronger = λ x y k. ⊎_elim (λ h. (p, tp, h)) (λ h. (q, tq, h)) (set-not-past x y p q s pq ps sq (product-≤0 k b)) }

-- at the east of a sample, and no further north
pub under-at-east : {T : Samples} {s t : Stream} → T t → s.east ≡ t.east → s.north ≤ℤ t.north → Under T s
under-at-east {s} {t} h e n = record { stronger = λ x y k. (t, h, set-at-east x y s t k e n) }

-- ---- through an involution of the streams, which takes a course to a course

-- the samples seen through f
abbrev pub Through : (Stream → Stream) → Samples → Samples
Through f S p = S (f p)

module _ (f : Stream → Stream) (twice : (p : Stream) → f (f p) ≡ p) (cx cy : ℤ → ℤ → ℤ)
    (sets : (x y : ℤ) (s : Stream) → set_on x y (f s) ≡ set_on (cx x y) (cy x y) s) where
  pub on_through : {K : ℤ → ℤ → Type 0} {T : Samples} {s : Stream} → On K T s → On (λ x y. K (cx x y) (cy x y)) (Through f T) (f s)
  on_through {T} {s} h = record { stronger = λ x y k. step x y (h.stronger (cx x y) (cy x y) k) }
    where
      step : (x y : ℤ) → (t : Stream) × T t × (set_on (cx x y) (cy x y) s ≤ℤ set_on (cx x y) (cy x y) t)
          → (t : Stream) × T (f t) × (set_on x y (f s) ≤ℤ set_on x y t)
      step x y t =
          (f t.0, subst T (sym (twice t.0)) t.1, ≤ℤ_trans (≤ℤ_of-≡ (sets x y s)) (≤ℤ_trans t.2 (≤ℤ_of-≡ (sym (sets x y t.0)))))

pub mirrored_on : {K : ℤ → ℤ → Type 0} {T : Samples} {s : Stream} → On K T s → On (λ x y. K x (neg_ℤ y)) (Through mirrored T) (mirrored s)
mirrored_on h = on_through mirrored mirrored-twice (λ x y. x) (λ x y. neg_ℤ y) set-mirrored h

pub turned_on : {K : ℤ → ℤ → Type 0} {T : Samples} {s : Stream} → On K T s → On (λ x y. K (neg_ℤ x) (neg_ℤ y)) (Through turned T) (turned s)
turned_on h = on_through turned turned-twice (λ x y. neg_ℤ x) (λ x y. neg_ℤ y) set-turned h

south_of_north : (x y : ℤ) → Northward x y → Southward x (neg_ℤ y)
south_of_north x y h = omega (order, negation y)

north_of_south : (x y : ℤ) → Southward x y → Northward x (neg_ℤ y)
north_of_south x y h = omega (order, negation y)

-- what is over T is, mirrored, under T mirrored
pub over-mirrored : {T : Samples} {s : Stream} → Over T s → Under (Through mirrored T) (mirrored s)
over-mirrored h = on_fewer south_of_north (mirrored_on h)

pub under-mirrored : {T : Samples} {s : Stream} → Under T s → Over (Through mirrored T) (mirrored s)
under-mirrored h = on_fewer north_of_south (mirrored_on h)

pub mirrored-behind : {T : Samples} {s : Stream} → Behind T s → Behind (Through mirrored T) (mirrored s)
mirrored-behind h = mirrored_on h

pub turned-behind : {T : Samples} {s : Stream} → Behind T s → Behind (Through turned T) (turned s)
turned-behind h = turned_on h

-- ---- what holds of all the samples that s is under, or behind, holds of s

-- if none is left of the way from p to q then s is not: on the course across it
pub on_line : {K : ℤ → ℤ → Type 0} {T : Samples} {s : Stream} (p q : Stream) → On K T s → K (p.north -ℤ q.north) (q.east -ℤ p.east)
    → ((t : Stream) → T t → side p q t ≤ℤ pos 0) → side p q s ≤ℤ pos 0
on_line {s} p q u k f = let t = u.stronger (p.north -ℤ q.north) (q.east -ℤ p.east) k in across t.0 (f t.0 t.1) t.2
  where
    across : (t : Stream) → side p q t ≤ℤ pos 0
        → set_on (p.north -ℤ q.north) (q.east -ℤ p.east) s ≤ℤ set_on (p.north -ℤ q.north) (q.east -ℤ p.east) t → side p q s ≤ℤ pos 0
    across t b h =
        let c = set_on (p.north -ℤ q.north) (q.east -ℤ p.east) p in
        let e = set_across p q s in
        let g = set_across p q t in
        omega (order, sum c (side p q s), sum c (side p q t))

-- some sample is no further east than s, some no further west, some no further south
module _ {T : Samples} {s : Stream} (u : Under T s) where
  pub under_west : (t : Stream) × T t × (t.east ≤ℤ s.east)
  under_west = let t = u.stronger (negsuc 0) (pos 0) (≤ℤ_refl (pos 0)) in (t.0, t.1, west t.0 t.2)
    where
      west : (t : Stream) → set_on (negsuc 0) (pos 0) s ≤ℤ set_on (negsuc 0) (pos 0) t → t.east ≤ℤ s.east
      west t h = let p = set_westward s in let q = set_westward t in omega (order, negation s.east, negation t.east)

  pub under-east : (t : Stream) × T t × (s.east ≤ℤ t.east)
  under-east = let t = u.stronger (pos 1) (pos 0) (≤ℤ_refl (pos 0)) in (t.0, t.1, eastward t.0 t.2)
    where
      eastward : (t : Stream) → set_on (pos 1) (pos 0) s ≤ℤ set_on (pos 1) (pos 0) t → s.east ≤ℤ t.east
      eastward t h = let p = set_eastward s in let q = set_eastward t in omega order

  pub under-north : (t : Stream) × T t × (s.north ≤ℤ t.north)
  under-north = let t = u.stronger (pos 0) (pos 1) (<ℤ→≤ℤ (lt_z_yes tt)) in (t.0, t.1, northward t.0 t.2)
    where
      northward : (t : Stream) → set_on (pos 0) (pos 1) s ≤ℤ set_on (pos 0) (pos 1) t → s.north ≤ℤ t.north
      northward t h = let p = set_northward s in let q = set_northward t in omega order

  -- if all are on or below the line pq then so is s
  pub under-line : (p q : Stream) → p.east ≤ℤ q.east → ((t : Stream) → T t → side p q t ≤ℤ pos 0) → side p q s ≤ℤ pos 0
  under-line p q pq f = on_line p q u (≤ℤ→0≤ pq) f
