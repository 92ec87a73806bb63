-- An envelope of three corners or more: what lies right of or on every side lies behind its corners.
-- Assumes nothing.
use Rattle.std.proofs.Math.Path.{refl}
use Rattle.std.proofs.Common.{⊎_elim}
use mathlib.Core.List.{List, [], ◌∷◌, Memᴰ}
use Rattle.std.specs.Prelude.{ℕ, ℤ, pos, ◌+ℤ◌, ◌≤ℤ◌, ◌<ℤ◌}
use Rattle.whole.specs.Linear.{order, sum}
use Rattle.whole.specs.Laws.{≤ℤ_total, ≤ℤ-<ℤ_trans, ≤ℤ_trans, ≤ℤ_of-≡}
use Rattle.whole.specs.Solver.{Ex, num, ◌⊕◌, ◌⊗◌, east, north, tri}
use Rattle.whole.specs.Certificate.{◌⊞◌, ◌⊠◌, from-≤, from-<, from-<0, from-≤0, cancel-≤, refute}
use Rattle.rules.specs.Streams.{Stream, side}
use Rattle.rules.specs.Chain.{Of}
use Rattle.rules.specs.Use.{set_on, strongest}
use Rattle.laws_outline.specs.Under.{Behind}
use Rattle.laws_rings.specs.Strongest.{strongest-most, strongest_of}
use Rattle.laws_cover.specs.EdgeSides.{Way, NotLeft}

-- ---- a course on which s is stronger than every corner

-- p sets less strong than s
abbrev pub Weaker : ℤ → ℤ → Stream → Stream → Type 0
Weaker x y s p = set_on x y p <ℤ set_on x y s

-- where there is none, s is behind
pub no_course_behind : (p : Stream) (ps : List Stream) (s : Stream) → ((x y : ℤ) → ((q : Stream) → Memᴰ q (p ∷ ps) → Weaker x y s q) → ⊥)
    → Behind (Of (p ∷ ps)) s
no_course_behind p ps s never =
    record { stronger = λ x y k. ⊎_elim (as_strong x y) (λ h. absurd (never x y (weaker x y h))) (≤ℤ_total (set_on x y s) (strongest x y p ps)) }
  where
    as_strong : (x y : ℤ) → set_on x y s ≤ℤ strongest x y p ps → (t : Stream) × Memᴰ t (p ∷ ps) × (set_on x y s ≤ℤ set_on x y t)
    as_strong x y h = let t = strongest_of x y p ps in (t.0, t.1, ≤ℤ_trans h (≤ℤ_of-≡ t.2))

    weaker : (x y : ℤ) → strongest x y p ps <ℤ set_on x y s → (q : Stream) → Memᴰ q (p ∷ ps) → Weaker x y s q
    weaker x y h q m = ≤ℤ-<ℤ_trans (strongest-most x y p ps m) h

one_less : {a b : ℤ} → a <ℤ b → (a +ℤ pos 1) ≤ℤ b
one_less {a} {b} h = omega (order, sum a (pos 1))

-- seen from s, all corners then lie to one side of it, and what goes round to the right there goes further round
module _ (x y : ℤ) (s a b c : Stream) (ha : Weaker x y s a) (hb : Weaker x y s b) (hc : Weaker x y s c) where
  ρ : List ℤ
  ρ = a.east ∷ a.north ∷ b.east ∷ b.north ∷ c.east ∷ c.north ∷ s.east ∷ s.north ∷ x ∷ y ∷ []

  set_of : ℕ → Ex
  set_of p = east 4 ⊗ east p ⊕ north 4 ⊗ north p

  further_round : NotLeft s a b → NotLeft s b c → NotLeft s a c
  unfolding side set_on ρ set_of
  further_round ab bc =
      cancel-≤ (from-< ρ (set_of 1) (set_of 3) hb)
      (from-< ρ (set_of 0) (set_of 3) ha ⊠ from-≤0 ρ (tri 1 2 3) bc ⊞ from-< ρ (set_of 2) (set_of 3) hc ⊠ from-≤0 ρ (tri 0 1 3) ab)
      (tri 0 2 3) (num (pos 0)) refl

  -- so s is in no triangle of corners
  in_no_triangle : side a b c <ℤ pos 0 → NotLeft s a b → NotLeft s b c → NotLeft s c a → ⊥
  unfolding side set_on ρ set_of
  in_no_triangle t ab bc ca =
      refute (from-≤ ρ (set_of 0 ⊕ num (pos 1)) (set_of 3) (one_less ha) ⊠ from-≤0 ρ (tri 1 2 3) bc
      ⊞ from-≤ ρ (set_of 1 ⊕ num (pos 1)) (set_of 3) (one_less hb) ⊠ from-≤0 ρ (tri 2 0 3) ca
      ⊞ from-≤ ρ (set_of 2 ⊕ num (pos 1)) (set_of 3) (one_less hc) ⊠ from-≤0 ρ (tri 0 1 3) ab ⊞ from-<0 ρ (tri 0 1 2) t) (pos 0) tt refl

-- all round, from a back to the first corner
round : (x y : ℤ) (s first a : Stream) (ps : List Stream) → Weaker x y s first → ((q : Stream) → Memᴰ q (a ∷ ps) → Weaker x y s q)
    → Way (NotLeft s) a ps first → NotLeft s a first
round x y s first a [] hf h w = w
round x y s first a (q ∷ ps) hf h w =
    further_round x y s a q first (h a (Memᴰ.head refl)) (later q (Memᴰ.head refl)) hf w.0 (round x y s first q ps hf later w.1)
  where
    later : (t : Stream) → Memᴰ t (q ∷ ps) → Weaker x y s t
    later t m = h t (Memᴰ.tail m)

-- THE LAW: three corners that turn strictly right, and others
pub sides-behind : (p q r : Stream) (ps : List Stream) (s : Stream) → side p q r <ℤ pos 0 → Way (NotLeft s) p (q ∷ r ∷ ps) p
    → Behind (Of (p ∷ q ∷ r ∷ ps)) s
sides-behind p q r ps s t w = no_course_behind p (q ∷ r ∷ ps) s never
  where
    never : (x y : ℤ) → ((u : Stream) → Memᴰ u (p ∷ q ∷ r ∷ ps) → Weaker x y s u) → ⊥
    never x y h =
        let hp = h p (Memᴰ.head refl) in
        let hq = h q (Memᴰ.tail (Memᴰ.head refl)) in
        let hr = h r (Memᴰ.tail (Memᴰ.tail (Memᴰ.head refl))) in
        in_no_triangle x y s p q r hp hq hr t w.0 w.1.0
        (round x y s p r ps hp (λ u m. h u (Memᴰ.tail (Memᴰ.tail m))) w.1.1)
