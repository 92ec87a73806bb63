-- Sidedness: the identities about `side`, about the set on a course and about heights, and what they say of signs. Where p is west of q, a stream s with
-- `side p q s` at most 0 lies on or below the line from p to q, and strictly below it where that is under 0.
-- Assumes nothing.
use Rattle.std.specs.Prelude.{◌≡◌, ◌⊎◌, List, [], ◌∷◌, ℕ, ℤ, pos, negsuc, neg_ℤ, ◌+ℤ◌, ◌-ℤ◌, ◌*ℤ◌, ◌≤ℤ◌, ◌<ℤ◌}
use Rattle.std.proofs.Math.Path.{refl}
use Rattle.std.proofs.Common.{sym, inl, inr, ⊎_elim}
use Rattle.whole.specs.Laws.{≤ℤ_total, ≤ℤ_antisym, <ℤ→≤ℤ, <ℤ→0<}
use Rattle.whole.specs.Solver.{Ex, var, num, ◌⊕◌, ◌⊖◌, ◌⊗◌, ⊝◌, ring, east, north, tri}
use Rattle.whole.specs.Certificate.{◌⊞◌, ◌⊠◌, scaled, from-≤, from-<, from-≡, from_0≤, from_0<, from-≤0, from-<0, from-≡0, conclude-≤, conclude-<, conclude-≡, cancel-≤, cancel-<, cancel-≡}
use Rattle.rules.specs.Streams.{Stream, stream, side, mirrored, turned}
use Rattle.rules.specs.Use.{set_on}
use Rattle.rules.specs.Round.{Slope, height}

-- the parts of some streams one after the other, as the solver numbers them. A course and a slope stand among them as streams
abbrev pub flat : List Stream → List ℤ
flat [] = []
flat (p ∷ ps) = p.east ∷ p.north ∷ flat ps

-- the set of stream s on course c, in syntax
abbrev set_of : ℕ → ℕ → Ex
set_of c s = east c ⊗ east s ⊕ north c ⊗ north s

-- ---- three streams

module _ (p q r : Stream) where
  pub side-turned : side p q r ≡ side q r p
  unfolding side
  side-turned = ring (flat (p ∷ q ∷ r ∷ [])) (tri 0 1 2) (tri 1 2 0) refl

  pub side_crossed : side p r q ≡ neg_ℤ (side p q r)
  unfolding side
  side_crossed = ring (flat (p ∷ q ∷ r ∷ [])) (tri 0 2 1) (⊝ tri 0 1 2) refl

  pub side-back : side q p r ≡ neg_ℤ (side p q r)
  unfolding side
  side-back = ring (flat (p ∷ q ∷ r ∷ [])) (tri 1 0 2) (⊝ tri 0 1 2) refl

pub side_of_first : (p q : Stream) → side p q p ≡ pos 0
unfolding side
side_of_first p q = ring (flat (p ∷ q ∷ [])) (tri 0 1 0) (num (pos 0)) refl

pub side_of_second : (p q : Stream) → side p q q ≡ pos 0
unfolding side
side_of_second p q = ring (flat (p ∷ q ∷ [])) (tri 0 1 1) (num (pos 0)) refl

-- ---- the identities

-- a line uv seen from p, q and s
pub side-between : (p q s u v : Stream)
    → (q.east -ℤ p.east) *ℤ side u v s ≡ (q.east -ℤ s.east) *ℤ side u v p +ℤ (s.east -ℤ p.east) *ℤ side u v q +ℤ (v.east -ℤ u.east) *ℤ side p q s
unfolding side
side-between p q s u v =
    ring (flat (p ∷ q ∷ s ∷ u ∷ v ∷ [])) ((east 1 ⊖ east 0) ⊗ tri 3 4 2)
    ((east 1 ⊖ east 2) ⊗ tri 3 4 0 ⊕ (east 2 ⊖ east 0) ⊗ tri 3 4 1 ⊕ (east 4 ⊖ east 3) ⊗ tri 0 1 2) refl

-- from one edge ab to the next, bc
pub side_next : (a b c s : Stream) → (b.east -ℤ a.east) *ℤ side b c s ≡ (c.east -ℤ b.east) *ℤ side a b s -ℤ (s.east -ℤ b.east) *ℤ side a b c
unfolding side
side_next a b c s =
    ring (flat (a ∷ b ∷ c ∷ s ∷ [])) ((east 1 ⊖ east 0) ⊗ tri 1 2 3) ((east 2 ⊖ east 1) ⊗ tri 0 1 3 ⊖ (east 3 ⊖ east 1) ⊗ tri 0 1 2) refl

-- three lines from p
pub side-round : (p x y z : Stream) → (y.east -ℤ p.east) *ℤ side p z x ≡ (x.east -ℤ p.east) *ℤ side p z y +ℤ (z.east -ℤ p.east) *ℤ side p y x
unfolding side
side-round p x y z =
    ring (flat (p ∷ x ∷ y ∷ z ∷ [])) ((east 2 ⊖ east 0) ⊗ tri 0 3 1) ((east 1 ⊖ east 0) ⊗ tri 0 3 2 ⊕ (east 3 ⊖ east 0) ⊗ tri 0 2 1) refl

-- the set on a course
pub set-between : (x y : ℤ) (p q s : Stream)
    → (q.east -ℤ p.east) *ℤ set_on x y s ≡ (q.east -ℤ s.east) *ℤ set_on x y p +ℤ (s.east -ℤ p.east) *ℤ set_on x y q +ℤ y *ℤ side p q s
unfolding side set_on
set-between x y p q s =
    ring (flat (p ∷ q ∷ s ∷ stream x y ∷ [])) ((east 1 ⊖ east 0) ⊗ set_of 3 2)
    ((east 1 ⊖ east 2) ⊗ set_of 3 0 ⊕ (east 2 ⊖ east 0) ⊗ set_of 3 1 ⊕ north 3 ⊗ tri 0 1 2) refl

-- on the course across the way from p to q a stream is as strong as p and its side together
pub set_across : (p q s : Stream)
    → set_on (p.north -ℤ q.north) (q.east -ℤ p.east) s ≡ set_on (p.north -ℤ q.north) (q.east -ℤ p.east) p +ℤ side p q s
unfolding side set_on
set_across p q s =
    ring (flat (p ∷ q ∷ s ∷ [])) ((north 0 ⊖ north 1) ⊗ east 2 ⊕ (east 1 ⊖ east 0) ⊗ north 2)
    ((north 0 ⊖ north 1) ⊗ east 0 ⊕ (east 1 ⊖ east 0) ⊗ north 0 ⊕ tri 0 1 2) refl

-- how much steeper K is than the way from p to q: above 0 where it is steeper
unfoldable pub steeper : Slope → Stream → Stream → ℤ
steeper K p q = K.rise *ℤ (q.east -ℤ p.east) -ℤ K.run *ℤ (q.north -ℤ p.north)

-- heights, a slope being its run and its rise
module _ (K : Slope) (p q m : Stream) where
  pub height_from_left : K.run *ℤ side p q m ≡ (q.east -ℤ p.east) *ℤ (height K m -ℤ height K p) +ℤ (m.east -ℤ p.east) *ℤ steeper K p q
  unfolding side height steeper
  height_from_left =
      ring (flat (p ∷ q ∷ m ∷ stream K.run K.rise ∷ [])) (east 3 ⊗ tri 0 1 2)
      ((east 1 ⊖ east 0) ⊗ ((east 3 ⊗ north 2 ⊖ north 3 ⊗ east 2) ⊖ (east 3 ⊗ north 0 ⊖ north 3 ⊗ east 0)) ⊕ (east 2 ⊖ east 0) ⊗
      (north 3 ⊗ (east 1 ⊖ east 0) ⊖ east 3 ⊗ (north 1 ⊖ north 0))) refl

  pub height_from_right : K.run *ℤ side p q m ≡ (q.east -ℤ p.east) *ℤ (height K m -ℤ height K q) -ℤ (q.east -ℤ m.east) *ℤ steeper K p q
  unfolding side height steeper
  height_from_right =
      ring (flat (p ∷ q ∷ m ∷ stream K.run K.rise ∷ [])) (east 3 ⊗ tri 0 1 2)
      ((east 1 ⊖ east 0) ⊗ ((east 3 ⊗ north 2 ⊖ north 3 ⊗ east 2) ⊖ (east 3 ⊗ north 1 ⊖ north 3 ⊗ east 1)) ⊖ (east 1 ⊖ east 2) ⊗
      (north 3 ⊗ (east 1 ⊖ east 0) ⊖ east 3 ⊗ (north 1 ⊖ north 0))) refl

  pub height-rise : height K q -ℤ height K p ≡ neg_ℤ (steeper K p q)
  unfolding height steeper
  height-rise =
      ring (flat (p ∷ q ∷ m ∷ stream K.run K.rise ∷ [])) ((east 3 ⊗ north 1 ⊖ north 3 ⊗ east 1) ⊖ (east 3 ⊗ north 0 ⊖ north 3 ⊗ east 0))
      (⊝ (north 3 ⊗ (east 1 ⊖ east 0) ⊖ east 3 ⊗ (north 1 ⊖ north 0))) refl

-- ---- mirrored and turned about

pub mirrored-twice : (p : Stream) → mirrored (mirrored p) ≡ p
mirrored-twice p i = stream p.east (ring (p.north ∷ []) (⊝ ⊝ var 0) (var 0) refl i)

pub turned-twice : (p : Stream) → turned (turned p) ≡ p
turned-twice p i = stream (ring (p.east ∷ []) (⊝ ⊝ var 0) (var 0) refl i) (ring (p.north ∷ []) (⊝ ⊝ var 0) (var 0) refl i)

pub side-mirrored : (p q r : Stream) → side (mirrored p) (mirrored q) (mirrored r) ≡ neg_ℤ (side p q r)
unfolding side
side-mirrored p q r =
    ring (flat (p ∷ q ∷ r ∷ [])) ((east 1 ⊖ east 0) ⊗ (⊝ north 2 ⊖ ⊝ north 0) ⊖ (⊝ north 1 ⊖ ⊝ north 0) ⊗ (east 2 ⊖ east 0)) (⊝ tri 0 1 2) refl

pub side_turned_about : (p q r : Stream) → side (turned p) (turned q) (turned r) ≡ side p q r
unfolding side
side_turned_about p q r =
    ring (flat (p ∷ q ∷ r ∷ [])) ((⊝ east 1 ⊖ ⊝ east 0) ⊗ (⊝ north 2 ⊖ ⊝ north 0) ⊖ (⊝ north 1 ⊖ ⊝ north 0) ⊗ (⊝ east 2 ⊖ ⊝ east 0)) (tri 0 1 2) refl

pub set-mirrored : (x y : ℤ) (s : Stream) → set_on x y (mirrored s) ≡ set_on x (neg_ℤ y) s
unfolding set_on
set-mirrored x y s = ring (flat (s ∷ stream x y ∷ [])) (east 1 ⊗ east 0 ⊕ north 1 ⊗ ⊝ north 0) (east 1 ⊗ east 0 ⊕ ⊝ north 1 ⊗ north 0) refl

pub set-turned : (x y : ℤ) (s : Stream) → set_on x y (turned s) ≡ set_on (neg_ℤ x) (neg_ℤ y) s
unfolding set_on
set-turned x y s = ring (flat (s ∷ stream x y ∷ [])) (east 1 ⊗ ⊝ east 0 ⊕ north 1 ⊗ ⊝ north 0) (⊝ east 1 ⊗ east 0 ⊕ ⊝ north 1 ⊗ north 0) refl

-- ---- s between p and q by its east, and on or below pq: under a line that p and q are under

module _ (p q s u v : Stream) (pq : p.east <ℤ q.east) (ps : p.east ≤ℤ s.east) (sq : s.east ≤ℤ q.east) where
  pub below-between : u.east ≤ℤ v.east → side u v p ≤ℤ pos 0 → side u v q ≤ℤ pos 0 → side p q s ≤ℤ pos 0 → side u v s ≤ℤ pos 0
  unfolding side
  below-between uv up uq b =
      let ρ = flat (p ∷ q ∷ s ∷ u ∷ v ∷ []) in
      cancel-≤ (from-< ρ (east 0) (east 1) pq) (from-≤ ρ (east 2) (east 1) sq ⊠ from-≤0 ρ (tri 3 4 0) up
      ⊞ from-≤ ρ (east 0) (east 2) ps ⊠ from-≤0 ρ (tri 3 4 1) uq ⊞ from-≤ ρ (east 3) (east 4) uv ⊠ from-≤0 ρ (tri 0 1 2) b) (tri 3 4 2)
      (num (pos 0)) refl

  -- strictly, if s is strictly below pq
  pub strictly_below_between : u.east <ℤ v.east → side u v p ≤ℤ pos 0 → side u v q ≤ℤ pos 0 → side p q s <ℤ pos 0 → side u v s <ℤ pos 0
  unfolding side
  strictly_below_between uv up uq b =
      let ρ = flat (p ∷ q ∷ s ∷ u ∷ v ∷ []) in
      cancel-< (from-< ρ (east 0) (east 1) pq) (from-≤ ρ (east 2) (east 1) sq ⊠ from-≤0 ρ (tri 3 4 0) up
      ⊞ from-≤ ρ (east 0) (east 2) ps ⊠ from-≤0 ρ (tri 3 4 1) uq ⊞ from-< ρ (east 3) (east 4) uv ⊠ from-<0 ρ (tri 0 1 2) b) (tri 3 4 2)
      (num (pos 0)) refl

  -- strictly, if p is strictly below uv and s is not at q's east; and if q is and s is not at p's
  pub strictly_below_first : u.east ≤ℤ v.east → s.east <ℤ q.east → side u v p <ℤ pos 0 → side u v q ≤ℤ pos 0 → side p q s ≤ℤ pos 0
      → side u v s <ℤ pos 0
  unfolding side
  strictly_below_first uv sq' up uq b =
      let ρ = flat (p ∷ q ∷ s ∷ u ∷ v ∷ []) in
      cancel-< (from-< ρ (east 0) (east 1) pq) (from-< ρ (east 2) (east 1) sq' ⊠ from-<0 ρ (tri 3 4 0) up
      ⊞ from-≤ ρ (east 0) (east 2) ps ⊠ from-≤0 ρ (tri 3 4 1) uq ⊞ from-≤ ρ (east 3) (east 4) uv ⊠ from-≤0 ρ (tri 0 1 2) b) (tri 3 4 2)
      (num (pos 0)) refl

  pub strictly_below_second : u.east ≤ℤ v.east → p.east <ℤ s.east → side u v p ≤ℤ pos 0 → side u v q <ℤ pos 0 → side p q s ≤ℤ pos 0
      → side u v s <ℤ pos 0
  unfolding side
  strictly_below_second uv ps' up uq b =
      let ρ = flat (p ∷ q ∷ s ∷ u ∷ v ∷ []) in
      cancel-< (from-< ρ (east 0) (east 1) pq) (from-≤ ρ (east 2) (east 1) sq ⊠ from-≤0 ρ (tri 3 4 0) up
      ⊞ from-< ρ (east 0) (east 2) ps' ⊠ from-<0 ρ (tri 3 4 1) uq ⊞ from-≤ ρ (east 3) (east 4) uv ⊠ from-≤0 ρ (tri 0 1 2) b) (tri 3 4 2)
      (num (pos 0)) refl

  -- if s is on uv, p and q are not above uv and s is not above pq, then s is on pq; p is on uv unless s stands at q's east, and q unless at p's
  module _ (uv : u.east <ℤ v.east) (up : side u v p ≤ℤ pos 0) (uq : side u v q ≤ℤ pos 0) (us : side u v s ≡ pos 0) (b : side p q s ≤ℤ pos 0) where
    pub meets_between : side p q s ≡ pos 0
    unfolding side
    meets_between =
        let ρ = flat (p ∷ q ∷ s ∷ u ∷ v ∷ []) in
        ≤ℤ_antisym b (cancel-≤ (from-< ρ (east 3) (east 4) uv) (from-≤ ρ (east 2) (east 1) sq ⊠ from-≤0 ρ (tri 3 4 0) up
        ⊞ from-≤ ρ (east 0) (east 2) ps ⊠ from-≤0 ρ (tri 3 4 1) uq ⊞ scaled (from-≡0 ρ (tri 3 4 2) us) (east 1 ⊖ east 0)) (num (pos 0))
        (tri 0 1 2) refl)

    pub meets_first : s.east <ℤ q.east → side u v p ≡ pos 0
    unfolding side
    meets_first sq' =
        let ρ = flat (p ∷ q ∷ s ∷ u ∷ v ∷ []) in
        ≤ℤ_antisym up (cancel-≤ (from-< ρ (east 2) (east 1) sq') (from-≤ ρ (east 3) (east 4) (<ℤ→≤ℤ uv) ⊠ from-≤0 ρ (tri 0 1 2) b
        ⊞ from-≤ ρ (east 0) (east 2) ps ⊠ from-≤0 ρ (tri 3 4 1) uq ⊞ scaled (from-≡0 ρ (tri 3 4 2) us) (east 1 ⊖ east 0)) (num (pos 0))
        (tri 3 4 0) refl)

    pub meets_second : p.east <ℤ s.east → side u v q ≡ pos 0
    unfolding side
    meets_second ps' =
        let ρ = flat (p ∷ q ∷ s ∷ u ∷ v ∷ []) in
        ≤ℤ_antisym uq (cancel-≤ (from-< ρ (east 0) (east 2) ps') (from-≤ ρ (east 3) (east 4) (<ℤ→≤ℤ uv) ⊠ from-≤0 ρ (tri 0 1 2) b
        ⊞ from-≤ ρ (east 2) (east 1) sq ⊠ from-≤0 ρ (tri 3 4 0) up ⊞ scaled (from-≡0 ρ (tri 3 4 2) us) (east 1 ⊖ east 0)) (num (pos 0))
        (tri 3 4 1) refl)

-- ---- a right turn at b, from ab to bc, carries "on or below" over: to bc for what is not right of b, to ab for what is not left of it

module _ (a b c s : Stream) (ab : a.east <ℤ b.east) (bc : b.east <ℤ c.east) where
  pub before_turn : side a b c ≤ℤ pos 0 → s.east ≤ℤ b.east → side a b s ≤ℤ pos 0 → side b c s ≤ℤ pos 0
  unfolding side
  before_turn t sb h =
      let ρ = flat (a ∷ b ∷ c ∷ s ∷ []) in
      cancel-≤ (from-< ρ (east 0) (east 1) ab) (from-< ρ (east 1) (east 2) bc ⊠ from-≤0 ρ (tri 0 1 3) h
      ⊞ from-≤ ρ (east 3) (east 1) sb ⊠ from-≤0 ρ (tri 0 1 2) t) (tri 1 2 3) (num (pos 0)) refl

  pub past-turn : side a b c ≤ℤ pos 0 → b.east ≤ℤ s.east → side b c s ≤ℤ pos 0 → side a b s ≤ℤ pos 0
  unfolding side
  past-turn t bs h =
      let ρ = flat (a ∷ b ∷ c ∷ s ∷ []) in
      cancel-≤ (from-< ρ (east 1) (east 2) bc) (from-< ρ (east 0) (east 1) ab ⊠ from-≤0 ρ (tri 1 2 3) h
      ⊞ from-≤ ρ (east 1) (east 3) bs ⊠ from-≤0 ρ (tri 0 1 2) t) (tri 0 1 3) (num (pos 0)) refl

  -- a strict turn makes it strict for what is not at b's east
  pub before_strict_turn : side a b c <ℤ pos 0 → s.east <ℤ b.east → side a b s ≤ℤ pos 0 → side b c s <ℤ pos 0
  unfolding side
  before_strict_turn t sb h =
      let ρ = flat (a ∷ b ∷ c ∷ s ∷ []) in
      cancel-< (from-< ρ (east 0) (east 1) ab) (from-< ρ (east 1) (east 2) bc ⊠ from-≤0 ρ (tri 0 1 3) h
      ⊞ from-< ρ (east 3) (east 1) sb ⊠ from-<0 ρ (tri 0 1 2) t) (tri 1 2 3) (num (pos 0)) refl

  pub past_strict_turn : side a b c <ℤ pos 0 → b.east <ℤ s.east → side b c s ≤ℤ pos 0 → side a b s <ℤ pos 0
  unfolding side
  past_strict_turn t bs h =
      let ρ = flat (a ∷ b ∷ c ∷ s ∷ []) in
      cancel-< (from-< ρ (east 1) (east 2) bc) (from-< ρ (east 0) (east 1) ab ⊠ from-≤0 ρ (tri 1 2 3) h
      ⊞ from-< ρ (east 1) (east 3) bs ⊠ from-<0 ρ (tri 0 1 2) t) (tri 0 1 3) (num (pos 0)) refl

  -- "strictly below" is carried over as it is
  pub strictly_before_turn : side a b c ≤ℤ pos 0 → s.east ≤ℤ b.east → side a b s <ℤ pos 0 → side b c s <ℤ pos 0
  unfolding side
  strictly_before_turn t sb h =
      let ρ = flat (a ∷ b ∷ c ∷ s ∷ []) in
      cancel-< (from-< ρ (east 0) (east 1) ab) (from-< ρ (east 1) (east 2) bc ⊠ from-<0 ρ (tri 0 1 3) h
      ⊞ from-≤ ρ (east 3) (east 1) sb ⊠ from-≤0 ρ (tri 0 1 2) t) (tri 1 2 3) (num (pos 0)) refl

  pub strictly_past_turn : side a b c ≤ℤ pos 0 → b.east ≤ℤ s.east → side b c s <ℤ pos 0 → side a b s <ℤ pos 0
  unfolding side
  strictly_past_turn t bs h =
      let ρ = flat (a ∷ b ∷ c ∷ s ∷ []) in
      cancel-< (from-< ρ (east 1) (east 2) bc) (from-< ρ (east 0) (east 1) ab ⊠ from-<0 ρ (tri 1 2 3) h
      ⊞ from-≤ ρ (east 1) (east 3) bs ⊠ from-≤0 ρ (tri 0 1 2) t) (tri 0 1 3) (num (pos 0)) refl

-- ---- s at the east of p, or of q: on or below pq exactly if not further north

-- z is a positive multiple of b less a
module _ (c a b z : ℤ) (above : pos 0 <ℤ c) (e : z ≡ c *ℤ (b -ℤ a)) where
  multiple-≤ : b ≤ℤ a → z ≤ℤ pos 0
  multiple-≤ h =
      let ρ = c ∷ a ∷ b ∷ z ∷ [] in
      conclude-≤ (from_0< ρ (var 0) above ⊠ from-≤ ρ (var 2) (var 1) h ⊞ from-≡ ρ (var 3) (var 0 ⊗ (var 2 ⊖ var 1)) e) (var 3) (num (pos 0)) refl

  multiple-< : b <ℤ a → z <ℤ pos 0
  multiple-< h =
      let ρ = c ∷ a ∷ b ∷ z ∷ [] in
      conclude-< (from_0< ρ (var 0) above ⊠ from-< ρ (var 2) (var 1) h ⊞ from-≡ ρ (var 3) (var 0 ⊗ (var 2 ⊖ var 1)) e) (var 3) (num (pos 0)) refl

  ≤-multiple : z ≤ℤ pos 0 → b ≤ℤ a
  ≤-multiple h =
      let ρ = c ∷ a ∷ b ∷ z ∷ [] in
      cancel-≤ (from_0< ρ (var 0) above) (from-≤0 ρ (var 3) h ⊞ from-≡ ρ (var 0 ⊗ (var 2 ⊖ var 1)) (var 3) (sym e)) (var 2) (var 1) refl

  ≡-multiple : z ≡ pos 0 → b ≡ a
  ≡-multiple h =
      let ρ = c ∷ a ∷ b ∷ z ∷ [] in
      cancel-≡ (from_0< ρ (var 0) above) (from-≡ ρ (var 3) (num (pos 0)) h ⊞ from-≡ ρ (var 0 ⊗ (var 2 ⊖ var 1)) (var 3) (sym e)) (var 2) (var 1) refl

module _ (p q s : Stream) (pq : p.east <ℤ q.east) where
  module _ (e : s.east ≡ p.east) where
    side-at-first : side p q s ≡ (q.east -ℤ p.east) *ℤ (s.north -ℤ p.north)
    unfolding side
    side-at-first =
        let ρ = flat (p ∷ q ∷ s ∷ []) in
        conclude-≡ (scaled (from-≡ ρ (east 2) (east 0) e) (north 0 ⊖ north 1)) (tri 0 1 2) ((east 1 ⊖ east 0) ⊗ (north 2 ⊖ north 0)) refl

    pub at-first-below : s.north ≤ℤ p.north → side p q s ≤ℤ pos 0
    at-first-below = multiple-≤ _ _ _ _ (<ℤ→0< pq) side-at-first

    pub at_first_strictly_below : s.north <ℤ p.north → side p q s <ℤ pos 0
    at_first_strictly_below = multiple-< _ _ _ _ (<ℤ→0< pq) side-at-first

    pub below-at-first : side p q s ≤ℤ pos 0 → s.north ≤ℤ p.north
    below-at-first = ≤-multiple _ _ _ _ (<ℤ→0< pq) side-at-first

    pub on_at_first : side p q s ≡ pos 0 → s.north ≡ p.north
    on_at_first = ≡-multiple _ _ _ _ (<ℤ→0< pq) side-at-first

  module _ (e : s.east ≡ q.east) where
    side-at-second : side p q s ≡ (q.east -ℤ p.east) *ℤ (s.north -ℤ q.north)
    unfolding side
    side-at-second =
        let ρ = flat (p ∷ q ∷ s ∷ []) in
        conclude-≡ (scaled (from-≡ ρ (east 2) (east 1) e) (north 0 ⊖ north 1)) (tri 0 1 2) ((east 1 ⊖ east 0) ⊗ (north 2 ⊖ north 1)) refl

    pub at-second-below : s.north ≤ℤ q.north → side p q s ≤ℤ pos 0
    at-second-below = multiple-≤ _ _ _ _ (<ℤ→0< pq) side-at-second

    pub at_second_strictly_below : s.north <ℤ q.north → side p q s <ℤ pos 0
    at_second_strictly_below = multiple-< _ _ _ _ (<ℤ→0< pq) side-at-second

    pub below-at-second : side p q s ≤ℤ pos 0 → s.north ≤ℤ q.north
    below-at-second = ≤-multiple _ _ _ _ (<ℤ→0< pq) side-at-second

    pub on_at_second : side p q s ≡ pos 0 → s.north ≡ q.north
    on_at_second = ≡-multiple _ _ _ _ (<ℤ→0< pq) side-at-second

-- ---- seen from p, which is west of all: x above the line to y, y above that to z

module _ (p x y z : Stream) (px : p.east <ℤ x.east) (py : p.east <ℤ y.east) (pz : p.east <ℤ z.east) where
  pub round_strictly : pos 0 ≤ℤ side p y x → pos 0 <ℤ side p z y → pos 0 <ℤ side p z x
  unfolding side
  round_strictly h k =
      let ρ = flat (p ∷ x ∷ y ∷ z ∷ []) in
      cancel-< (from-< ρ (east 0) (east 2) py) (from-< ρ (east 0) (east 1) px ⊠ from_0< ρ (tri 0 3 2) k
      ⊞ from-< ρ (east 0) (east 3) pz ⊠ from_0≤ ρ (tri 0 2 1) h) (num (pos 0)) (tri 0 3 1) refl

  pub strictly_round : pos 0 <ℤ side p y x → pos 0 ≤ℤ side p z y → pos 0 <ℤ side p z x
  unfolding side
  strictly_round h k =
      let ρ = flat (p ∷ x ∷ y ∷ z ∷ []) in
      cancel-< (from-< ρ (east 0) (east 2) py) (from-< ρ (east 0) (east 1) px ⊠ from_0≤ ρ (tri 0 3 2) k
      ⊞ from-< ρ (east 0) (east 3) pz ⊠ from_0< ρ (tri 0 2 1) h) (num (pos 0)) (tri 0 3 1) refl

  pub round-level : side p y x ≡ pos 0 → side p z y ≡ pos 0 → side p z x ≡ pos 0
  unfolding side
  round-level h k =
      let ρ = flat (p ∷ x ∷ y ∷ z ∷ []) in
      cancel-≡ (from-< ρ (east 0) (east 2) py) (scaled (from-≡0 ρ (tri 0 3 2) k) (east 0 ⊖ east 1)
      ⊞ scaled (from-≡0 ρ (tri 0 2 1) h) (east 0 ⊖ east 3)) (tri 0 3 1) (num (pos 0)) refl

-- ---- the set on a course

-- s is between p and q by its east, and y times its side of pq is not above 0
module _ (x y : ℤ) (p q s : Stream) (pq : p.east <ℤ q.east) (ps : p.east ≤ℤ s.east) (sq : s.east ≤ℤ q.east) (b : (y *ℤ side p q s) ≤ℤ pos 0)
  where
    not-past-second : set_on x y p ≤ℤ set_on x y q → set_on x y s ≤ℤ set_on x y q
    unfolding side set_on
    not-past-second h =
        let ρ = flat (p ∷ q ∷ s ∷ stream x y ∷ []) in
        cancel-≤ (from-< ρ (east 0) (east 1) pq) (from-≤ ρ (east 2) (east 1) sq ⊠ from-≤ ρ (set_of 3 0) (set_of 3 1) h
        ⊞ from-≤0 ρ (north 3 ⊗ tri 0 1 2) b) (set_of 3 2) (set_of 3 1) refl

    not-past-first : set_on x y q ≤ℤ set_on x y p → set_on x y s ≤ℤ set_on x y p
    unfolding side set_on
    not-past-first h =
        let ρ = flat (p ∷ q ∷ s ∷ stream x y ∷ []) in
        cancel-≤ (from-< ρ (east 0) (east 1) pq) (from-≤ ρ (east 0) (east 2) ps ⊠ from-≤ ρ (set_of 3 1) (set_of 3 0) h
        ⊞ from-≤0 ρ (north 3 ⊗ tri 0 1 2) b) (set_of 3 2) (set_of 3 0) refl

    -- then on the course (x, y) it is no stronger than p, or no stronger than q
    pub set-not-past : (set_on x y s ≤ℤ set_on x y p) ⊎ (set_on x y s ≤ℤ set_on x y q)
    set-not-past = ⊎_elim (λ h. inr (not-past-second h)) (λ h. inl (not-past-first (<ℤ→≤ℤ h))) (≤ℤ_total (set_on x y p) (set_on x y q))

-- on a course that does not point south, a stream is no stronger than one of the same east that is no further south
pub set-at-east : (x y : ℤ) (s t : Stream) → pos 0 ≤ℤ y → s.east ≡ t.east → s.north ≤ℤ t.north → set_on x y s ≤ℤ set_on x y t
unfolding set_on
set-at-east x y s t h e n =
    let ρ = flat (s ∷ t ∷ stream x y ∷ []) in
    conclude-≤ (from_0≤ ρ (north 2) h ⊠ from-≤ ρ (north 0) (north 1) n
    ⊞ scaled (from-≡ ρ (east 0) (east 1) e) (east 2)) (set_of 2 0) (set_of 2 1) refl

pub product-≤0 : {a b : ℤ} → pos 0 ≤ℤ a → b ≤ℤ pos 0 → (a *ℤ b) ≤ℤ pos 0
product-≤0 {a} {b} h k =
    let ρ = a ∷ b ∷ [] in
    conclude-≤ (from_0≤ ρ (var 0) h ⊠ from-≤0 ρ (var 1) k) (var 0 ⊗ var 1) (num (pos 0)) refl

-- the four plain courses
pub set_eastward : (s : Stream) → set_on (pos 1) (pos 0) s ≡ s.east
unfolding set_on
set_eastward s = ring (flat (s ∷ [])) (num (pos 1) ⊗ east 0 ⊕ num (pos 0) ⊗ north 0) (east 0) refl

pub set_westward : (s : Stream) → set_on (negsuc 0) (pos 0) s ≡ neg_ℤ s.east
unfolding set_on
set_westward s = ring (flat (s ∷ [])) (num (negsuc 0) ⊗ east 0 ⊕ num (pos 0) ⊗ north 0) (⊝ east 0) refl

pub set_northward : (s : Stream) → set_on (pos 0) (pos 1) s ≡ s.north
unfolding set_on
set_northward s = ring (flat (s ∷ [])) (num (pos 0) ⊗ east 0 ⊕ num (pos 1) ⊗ north 0) (north 0) refl

pub set_southward : (s : Stream) → set_on (pos 0) (negsuc 0) s ≡ neg_ℤ s.north
unfolding set_on
set_southward s = ring (flat (s ∷ [])) (num (pos 0) ⊗ east 0 ⊕ num (negsuc 0) ⊗ north 0) (⊝ north 0) refl
