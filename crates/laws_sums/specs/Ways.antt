-- Two ways compared by their slopes, and streams below a way through a corner: a product of differences, as sidedness is, of two ways that need not start
-- at one position. Assumes nothing.
use Rattle.std.specs.Prelude.{◌≡◌, [], ◌∷◌, ℕ, ℤ, pos, neg_ℤ, ◌+ℤ◌, ◌-ℤ◌, ◌*ℤ◌, ◌≤ℤ◌, ◌<ℤ◌}
use Rattle.std.proofs.Math.Path.{refl}
use Rattle.whole.specs.Solver.{Ex, num, ◌⊕◌, ◌⊖◌, ◌⊗◌, ⊝◌, ring, east, north, tri}
use Rattle.whole.specs.Certificate.{◌⊞◌, ◌⊠◌, scaled, from-≤, from-<, from-≡, from-≤0, from-<0, from-≡0, conclude-≤, cancel-≤, cancel-<}
use Rattle.rules.specs.Streams.{Stream, side, turned}
use Rattle.rules.specs.Use.{added}
use Rattle.laws_outline.specs.Sidedness.{flat}

-- how the way from u to v bends from the way from p to q, both going east: below 0 where it is less steep, above 0 where it is steeper
unfoldable pub bend : Stream → Stream → Stream → Stream → ℤ
bend p q u v = (q.east -ℤ p.east) *ℤ (v.north -ℤ u.north) -ℤ (q.north -ℤ p.north) *ℤ (v.east -ℤ u.east)

-- the same in syntax
abbrev turn : ℕ → ℕ → ℕ → ℕ → Ex
turn p q u v = (east q ⊖ east p) ⊗ (north v ⊖ north u) ⊖ (north q ⊖ north p) ⊗ (east v ⊖ east u)

-- ---- the identities

pub bend-side : (p q s : Stream) → bend p q p s ≡ side p q s
unfolding bend side
bend-side p q s = refl

pub bend_crossed : (p q u v : Stream) → bend u v p q ≡ neg_ℤ (bend p q u v)
unfolding bend
bend_crossed p q u v = ring (flat (p ∷ q ∷ u ∷ v ∷ [])) (turn 2 3 0 1) (⊝ turn 0 1 2 3) refl

pub bend_itself : (p q : Stream) → bend p q p q ≡ pos 0
unfolding bend
bend_itself p q = ring (flat (p ∷ q ∷ [])) (turn 0 1 0 1) (num (pos 0)) refl

pub bend_nowhere : (a b p : Stream) → bend a b p p ≡ pos 0
unfolding bend
bend_nowhere a b p = ring (flat (a ∷ b ∷ p ∷ [])) (turn 0 1 2 2) (num (pos 0)) refl

-- a way over q
pub bend-over : (a b p q s : Stream) → bend a b p s ≡ bend a b p q +ℤ bend a b q s
unfolding bend
bend-over a b p q s = ring (flat (a ∷ b ∷ p ∷ q ∷ s ∷ [])) (turn 0 1 2 4) (turn 0 1 2 3 ⊕ turn 0 1 3 4) refl

-- the way from q on, after that from p to q
pub bend_next : (p q r : Stream) → bend p q q r ≡ side p q r
unfolding bend side
bend_next p q r = ring (flat (p ∷ q ∷ r ∷ [])) (turn 0 1 1 2) (tri 0 1 2) refl

-- two ways added
pub bend-added : (a b p s u t : Stream) → bend a b (added p u) (added s t) ≡ bend a b p s +ℤ bend a b u t
unfolding bend
bend-added a b p s u t =
    ring (flat (a ∷ b ∷ p ∷ s ∷ u ∷ t ∷ []))
    ((east 1 ⊖ east 0) ⊗ ((north 3 ⊕ north 5) ⊖ (north 2 ⊕ north 4)) ⊖ (north 1 ⊖ north 0) ⊗ ((east 3 ⊕ east 5) ⊖ (east 2 ⊕ east 4)))
    (turn 0 1 2 3 ⊕ turn 0 1 4 5) refl

-- turned about, both ways go back, and bend as before
pub bend-turned : (p q u v : Stream) → bend (turned p) (turned q) (turned u) (turned v) ≡ bend p q u v
unfolding bend
bend-turned p q u v =
    ring (flat (p ∷ q ∷ u ∷ v ∷ []))
    ((⊝ east 1 ⊖ ⊝ east 0) ⊗ (⊝ north 3 ⊖ ⊝ north 2) ⊖ (⊝ north 1 ⊖ ⊝ north 0) ⊗ (⊝ east 3 ⊖ ⊝ east 2))
    (turn 0 1 2 3) refl

-- ---- below a way cd through p, and a way ab

module _ (a b c d p s : Stream) (ab : a.east <ℤ b.east) (cd : c.east <ℤ d.east) where
  -- what does not lie east of p is below every way that is no steeper, too
  pub west_below : bend c d a b ≤ℤ pos 0 → s.east ≤ℤ p.east → bend c d p s ≤ℤ pos 0 → bend a b p s ≤ℤ pos 0
  unfolding bend
  west_below h w k =
      let ρ = flat (a ∷ b ∷ c ∷ d ∷ p ∷ s ∷ []) in
      cancel-≤ (from-< ρ (east 2) (east 3) cd)
      (from-< ρ (east 0) (east 1) ab ⊠ from-≤0 ρ (turn 2 3 4 5) k ⊞ from-≤ ρ (east 5) (east 4) w ⊠ from-≤0 ρ (turn 2 3 0 1) h)
      (turn 0 1 4 5) (num (pos 0)) refl

  -- what does not lie west of p is below every way that is no less steep
  pub east-below : bend a b c d ≤ℤ pos 0 → p.east ≤ℤ s.east → bend c d p s ≤ℤ pos 0 → bend a b p s ≤ℤ pos 0
  unfolding bend
  east-below h w k =
      let ρ = flat (a ∷ b ∷ c ∷ d ∷ p ∷ s ∷ []) in
      cancel-≤ (from-< ρ (east 2) (east 3) cd)
      (from-< ρ (east 0) (east 1) ab ⊠ from-≤0 ρ (turn 2 3 4 5) k ⊞ from-≤ ρ (east 4) (east 5) w ⊠ from-≤0 ρ (turn 0 1 2 3) h)
      (turn 0 1 4 5) (num (pos 0)) refl

  -- of one slope, both ways have the same below them
  pub level-below : bend a b c d ≡ pos 0 → bend a b p s ≤ℤ pos 0 → bend c d p s ≤ℤ pos 0
  unfolding bend
  level-below h k =
      let ρ = flat (a ∷ b ∷ c ∷ d ∷ p ∷ s ∷ []) in
      cancel-≤ (from-< ρ (east 0) (east 1) ab)
      (from-< ρ (east 2) (east 3) cd ⊠ from-≤0 ρ (turn 0 1 4 5) k ⊞ scaled (from-≡0 ρ (turn 0 1 2 3) h) (east 5 ⊖ east 4))
      (turn 2 3 4 5) (num (pos 0)) refl

  pub level_strictly_below : bend a b c d ≡ pos 0 → bend a b p s <ℤ pos 0 → bend c d p s <ℤ pos 0
  unfolding bend
  level_strictly_below h k =
      let ρ = flat (a ∷ b ∷ c ∷ d ∷ p ∷ s ∷ []) in
      cancel-< (from-< ρ (east 0) (east 1) ab)
      (from-< ρ (east 2) (east 3) cd ⊠ from-<0 ρ (turn 0 1 4 5) k ⊞ scaled (from-≡0 ρ (turn 0 1 2 3) h) (east 5 ⊖ east 4))
      (turn 2 3 4 5) (num (pos 0)) refl

-- what stands at the east of p and no further north is below every way
pub at-corner-below : (a b p s : Stream) → a.east <ℤ b.east → s.east ≡ p.east → s.north ≤ℤ p.north → bend a b p s ≤ℤ pos 0
unfolding bend
at-corner-below a b p s ab e n =
    let ρ = flat (a ∷ b ∷ p ∷ s ∷ []) in
    conclude-≤ (from-< ρ (east 0) (east 1) ab ⊠ from-≤ ρ (north 3) (north 2) n ⊞ scaled (from-≡ ρ (east 3) (east 2) e) (north 0 ⊖ north 1))
    (turn 0 1 2 3) (num (pos 0)) refl
