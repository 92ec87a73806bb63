-- The numbers of positions and slopes as words: the bounds from which the sums and products of the code fit.
-- Assumes nothing.
use Rattle.std.specs.Prelude.{◌≡◌, ℕ, ◌^◌, ◌<◌, T, ltb, List, [], ◌∷◌, ℤ, pos, negsuc, nat_abs, ◌≤ℤ◌}
use mathlib.Core.Path.{refl, ap, ap₂, subst⁻¹}
use native.Mathlib.Nat.{lt_of_le_of_lt}
use borrow.Author.Rules.{sfits_of}
use lib.Dec.{ltb→lt}
use lib.Signed.{mag, non_neg}
use mir.Syntax.{w32, w64}
use mir.Val.{Fits, to_z, of_z}
use mir.Facts.{to_z-of_z}
use Rattle.whole.specs.Solver.{Ex, var, num, ◌⊖◌, ◌⊗◌, eval}
use Rattle.whole.specs.Fits.{Within, Leaves, Bounded, []ʷ, ◌∷ʷ◌, ◌∷ᶜ◌, read, read-within, value-within, bound, safe, word, word-is, word-within}
use Rattle.rules.specs.Streams.{Stream}
use Rattle.rules.specs.Round.{Slope, height}
use Rattle.slopes.specs.Fractions as fractions
use Rattle.samples.specs.Positions.{Near}
use Rattle.samples.specs.Samples.{near_at}
use Rattle.samples.specs.Sides.{seen}
use Rattle.samples.specs.StreamWords.{held}
use Rattle.samples.specs.declared.sides.Side.{Side}
use Rattle.round.specs.declared.scaled.Scaled.{Scaled}
use Rattle.round.specs.Tops.{spread, slope_by, scaled, as_scaled}

-- every sample of a side is near
pub near_side : (s : Side) (x : ℕ) → Near (seen s x)
near_side s x = near_at s.samples.sampled s.lower x

-- a number that fits 64 bits is what its word is read as
pub word_of : (z : ℤ) → mag z < 2 ^ 63 → to_z w64 (of_z w64 z) ≡ z
word_of z h = to_z-of_z (sfits_of {w = w64} h)

-- K's rise or run, and that times the spread
pub slope_leaf : {z : ℤ} → Within z 2000000 → Leaves (read w32 z ∷ []) (z ∷ []) (2000000 ∷ [])
slope_leaf h = read-within w32 h tt ∷ᶜ []ʷ

abbrev pub times : Ex
times = var 0 ⊗ num (pos spread)

-- K scaled, as its words are read
abbrev pub scaled_words : Slope → Slope
scaled_words K = slope_by (word w64 (read w32 K.rise ∷ []) times) (word w64 (read w32 K.run ∷ []) times)

pub scaled-is : {K : Slope} → fractions.Near K → scaled_words K ≡ scaled K
scaled-is h = ap₂ slope_by (word-is w64 (slope_leaf h.rise_near) times tt) (word-is w64 (slope_leaf h.run_near) times tt)

pub times_near : {z : ℤ} → Within z 2000000 → Within (word w64 (read w32 z ∷ []) times) 4000002000000
times_near h = word-within w64 (slope_leaf h) times tt

-- a scaled run and rise, and a position's north and east, each read from a word of 32 bits
pub height_leaves : {p : Stream} (k : Scaled) → Near p
    → Leaves
    (k.run ∷ read w32 p.north ∷ k.rise ∷ read w32 p.east ∷ [])
    (k.run ∷ p.north ∷ k.rise ∷ p.east ∷ [])
    (4000002000000 ∷ 1000000 ∷ 4000002000000 ∷ 1000000 ∷ [])
height_leaves k h = k.run_near ∷ʷ held h.north_near ∷ᶜ k.rise_near ∷ʷ held h.east_near ∷ᶜ []ʷ

-- the height
abbrev pub high : Ex
high = var 0 ⊗ var 1 ⊖ var 2 ⊗ var 3

pub height_near : {p : Stream} (k : Scaled) → Near p → Within (height (as_scaled k) p) 8000004000000000000
unfolding height
height_near k h = value-within (height_leaves k h) high

-- two positions: the east and the north of the first, and those of the second
abbrev pub parts : Stream → Stream → List ℤ
parts p q = p.east ∷ p.north ∷ q.east ∷ q.north ∷ []

pub two_leaves : {p q : Stream} → Near p → Near q → Bounded (parts p q) (1000000 ∷ 1000000 ∷ 1000000 ∷ 1000000 ∷ [])
two_leaves h k = h.east_near ∷ʷ h.north_near ∷ʷ k.east_near ∷ʷ k.north_near ∷ʷ []ʷ

-- how far the second stands east of the first, and how far north
abbrev pub way : Ex
way = var 2 ⊖ var 0

abbrev pub climb : Ex
climb = var 3 ⊖ var 1

-- both, and K's run and rise, each read from a word of 32 bits
pub excess_leaves : {p q : Stream} {K : Slope} → Near p × (Near q × fractions.Near K)
    → Leaves
    (read w32 p.east ∷ read w32 p.north ∷ read w32 q.east ∷ read w32 q.north ∷ read w32 K.run ∷ read w32 K.rise ∷ [])
    (p.east ∷ p.north ∷ q.east ∷ q.north ∷ K.run ∷ K.rise ∷ [])
    (1000000 ∷ 1000000 ∷ 1000000 ∷ 1000000 ∷ 2000000 ∷ 2000000 ∷ [])
excess_leaves (h, (j, k)) =
    held h.east_near
    ∷ᶜ held h.north_near
    ∷ᶜ held j.east_near
    ∷ᶜ held j.north_near
    ∷ᶜ read-within w32 k.run_near tt
    ∷ᶜ read-within w32 k.rise_near tt
    ∷ᶜ []ʷ

-- ---- a number that is not below 0, cast to an unsigned word

-- it is its size
pub natural : {z : ℤ} → pos 0 ≤ℤ z → pos (nat_abs z) ≡ z
natural {z = pos n} h = refl
natural {z = negsuc n} h = absurd h.le

non_negative : {z : ℤ} → pos 0 ≤ℤ z → T (non_neg z)
non_negative {z = pos n} h = tt
non_negative {z = negsuc n} h = absurd h.le

module _ {σ ρ : List ℤ} {βs : List ℕ} (l : Leaves σ ρ βs) (e : Ex) (t : T (safe w32 βs e)) where
  pub cast_unsigned : T (ltb (bound βs e) (2 ^ 32)) → pos 0 ≤ℤ eval ρ e → T (non_neg (word w32 σ e)) × Fits w32 (nat_abs (word w32 σ e))
  cast_unsigned small h =
      subst⁻¹ (λ (z : ℤ). T (non_neg z) × Fits w32 (nat_abs z)) (word-is w32 l e t)
      (non_negative h, record { fits = lt_of_le_of_lt (value-within l e).within (ltb→lt (bound βs e) (2 ^ 32) small) })

  pub unsigned_is : nat_abs (word w32 σ e) ≡ nat_abs (eval ρ e)
  unsigned_is = ap nat_abs (word-is w32 l e t)
