-- What a pair keeps, by the order of its easts and the sign of its excess over K.
-- Assumes nothing.
use Rattle.std.specs.Prelude.{◌≡◌, ℕ, Bool, true, false, cond, not, ◌&&◌, ◌||◌, ◌≢◌, ◌⊎◌, List, [], ◌∷◌, ℤ, pos, ◌-ℤ◌, ◌*ℤ◌, neg_ℤ, ◌≤ℤ◌, ◌<ℤ◌}
use mathlib.Core.Path.{refl, sym, ap, ap₂, ◌∙◌}
use mathlib.Core.Bool.{or-true, or-false}
use mathlib.Core.Logic.{inl, inr}
use mathlib.Core.Option.{none, some}
use lib.Signed.{le_z, lt_z}
use Rattle.whole.specs.Linear.{order, difference, negation}
use Rattle.whole.specs.Laws.{≤ℤ_antisym, ≤ℤ_split, <ℤ→≤ℤ, <ℤ→≢, ≡→0≡, 0≡→≡, eqZ, le_z_not_lt_z, lt_test, nlt_test, eq_test, ne_test, test-lt, test_nlt, test-eq, test-ne}
use Rattle.whole.specs.Solver.{Ex, var, ◌⊖◌, ◌⊗◌, ⊝◌, ring}
use Rattle.whole.specs.Certificate.{Zero, ◌⊞◌, scaled, from-≡, from_0<, from-≤0, cancel-≤, cancel-<}
use Rattle.rules.specs.Streams.{Stream}
use Rattle.rules.specs.Round.{Slope, slope, slope_le, pair, Tops, west, east, keeps_of, keeps}
use Rattle.round.specs.Keeping.{excess, towards, chosen}

-- ---- an order by the sign of the difference

-- what is not above 0 is below it or 0
not-above : (z : ℤ) → not (lt_z (pos 0) z) ≡ (lt_z z (pos 0) || eqZ z (pos 0))
not-above z = go (lt_z (pos 0) z) refl
  where
    zero : (z <ℤ pos 0) ⊎ (z ≡ pos 0) → true ≡ (lt_z z (pos 0) || eqZ z (pos 0))
    zero (inl h) = sym (ap (λ (b : Bool). b || eqZ z (pos 0)) (lt_test h))
    zero (inr e) = sym (ap (λ (b : Bool). lt_z z (pos 0) || b) (eq_test e) ∙ or-true (lt_z z (pos 0)))

    go : (b : Bool) → lt_z (pos 0) z ≡ b → not b ≡ (lt_z z (pos 0) || eqZ z (pos 0))
    go true e =
        let h = test-lt (pos 0) z e in
        sym (ap₂ ◌||◌ (nlt_test {a = z} {b = pos 0} (<ℤ→≤ℤ h)) (ne_test {a = z} {b = pos 0} (λ g. <ℤ→≢ h (sym g))))
    go false e = zero (≤ℤ_split (test_nlt (pos 0) z e))

same_order : (a b c d : ℤ) → (a <ℤ b → c <ℤ d) → (b ≤ℤ a → d ≤ℤ c) → lt_z a b ≡ lt_z c d
same_order a b c d f g = go (lt_z a b) refl
  where
    go : (t : Bool) → lt_z a b ≡ t → t ≡ lt_z c d
    go true e = sym (lt_test (f (test-lt a b e)))
    go false e = sym (nlt_test (g (test_nlt a b e)))

below-zero : (a b : ℤ) → lt_z b a ≡ lt_z (b -ℤ a) (pos 0)
below-zero a b = same_order b a (b -ℤ a) (pos 0) (λ h. omega (order, difference b a)) (λ h. omega (order, difference b a))

above_zero : (a b : ℤ) → lt_z a b ≡ lt_z (pos 0) (b -ℤ a)
above_zero a b = same_order a b (pos 0) (b -ℤ a) (λ h. omega (order, difference b a)) (λ h. omega (order, difference b a))

pub negated : (a b : ℤ) → lt_z (neg_ℤ b) (neg_ℤ a) ≡ lt_z a b
negated a b = same_order (neg_ℤ b) (neg_ℤ a) a b (λ h. omega (order, negation a, negation b)) (λ h. omega (order, negation a, negation b))

-- of two numbers that differ, one is below the other
apart : (a b : ℤ) → a ≢ b → lt_z b a ≡ not (lt_z a b)
apart a b f = go (lt_z a b) refl (lt_z b a) refl
  where
    go : (s : Bool) → lt_z a b ≡ s → (t : Bool) → lt_z b a ≡ t → t ≡ not s
    go true e true g =
        let h = test-lt a b e in
        let k = test-lt b a g in
        absurd (omega order)
    go true e false g = refl
    go false e true g = refl
    go false e false g = absurd (f (≤ℤ_antisym (test_nlt b a g) (test_nlt a b e)))

-- of two equal ones, neither is
level : {a b : ℤ} → a ≡ b → lt_z a b ≡ false
level {a} {b} h = nlt_test {a = a} {b = b} (omega order)

-- how far b stands beyond a, seen from the west, or else from the east
abbrev pub away : Bool → ℤ → ℤ → ℤ
away w a b = cond w (b -ℤ a) (neg_ℤ (b -ℤ a))

away-below : (w : Bool) (a b : ℤ) → cond w (lt_z b a) (lt_z a b) ≡ lt_z (away w a b) (pos 0)
away-below true a b = below-zero a b
away-below false a b = above_zero a b ∙ sym (negated (pos 0) (b -ℤ a))

away-above : (w : Bool) (a b : ℤ) → cond w (lt_z a b) (lt_z b a) ≡ lt_z (pos 0) (away w a b)
away-above true a b = above_zero a b
away-above false a b = below-zero a b ∙ sym (negated (b -ℤ a) (pos 0))

-- two that stand apart, and two that do not
apart-away : (w : Bool) (a b : ℤ) → a ≢ b → away w a b ≢ pos 0
apart-away true a b f e = f (0≡→≡ a b e)
apart-away false a b f e = f (0≡→≡ a b (omega (order, negation (b -ℤ a))))

level-away : (w : Bool) {a b : ℤ} → a ≡ b → away w a b ≡ pos 0
level-away true e = ≡→0≡ e
level-away false e = ap neg_ℤ (≡→0≡ e)

-- ---- K against the slope of the way from p to q, and of the way back

module _ (K : Slope) (p q : Stream) where
  -- the two sides of the comparison
  rising : ℤ
  rising = K.rise *ℤ (q.east -ℤ p.east)

  risen : ℤ
  risen = (q.north -ℤ p.north) *ℤ K.run

  steeper : slope_le K (slope p q) ≡ not (lt_z (excess K p q) (pos 0))
  unfolding slope_le rising risen
  steeper = le_z_not_lt_z rising risen ∙ ap not (below-zero rising risen)

  flatter : slope_le (slope p q) K ≡ not (lt_z (pos 0) (excess K p q))
  unfolding slope_le rising risen
  flatter = le_z_not_lt_z risen rising ∙ ap not (above_zero rising risen)

  back_rising : K.rise *ℤ (p.east -ℤ q.east) ≡ neg_ℤ rising
  unfolding rising
  back_rising = ring (K.rise ∷ p.east ∷ q.east ∷ []) (var 0 ⊗ (var 1 ⊖ var 2)) (⊝ (var 0 ⊗ (var 2 ⊖ var 1))) refl

  back_risen : (p.north -ℤ q.north) *ℤ K.run ≡ neg_ℤ risen
  unfolding risen
  back_risen = ring (K.run ∷ p.north ∷ q.north ∷ []) ((var 1 ⊖ var 2) ⊗ var 0) (⊝ ((var 2 ⊖ var 1) ⊗ var 0)) refl

  steeper-back : slope_le K (slope q p) ≡ not (lt_z (pos 0) (excess K p q))
  unfolding slope_le rising risen
  steeper-back = ap₂ le_z back_rising back_risen ∙ le_z_not_lt_z (neg_ℤ rising) (neg_ℤ risen) ∙ ap not (negated rising risen ∙ above_zero rising risen)

  flatter_back : slope_le (slope q p) K ≡ not (lt_z (excess K p q) (pos 0))
  unfolding slope_le rising risen
  flatter_back = ap₂ le_z back_risen back_rising ∙ le_z_not_lt_z (neg_ℤ risen) (neg_ℤ rising) ∙ ap not (negated risen rising ∙ below-zero rising risen)

-- ---- what the pair keeps

only_second : (x y : ℕ) (b : Bool) → cond (not b) (y ∷ []) (x ∷ y ∷ []) ≡ chosen b true x y
only_second x y true = refl
only_second x y false = refl

only_first : (x y : ℕ) (b : Bool) → cond (not b) (x ∷ []) (x ∷ y ∷ []) ≡ chosen true b x y
only_first x y true = refl
only_first x y false = refl

module _ (at : ℕ → Stream) (K : Slope) (x y : ℕ) where
  abbrev over : ℤ
  over = excess K (at x) (at y)

  -- how far the second stands beyond the first, seen from the tops, and that it is kept
  abbrev beyond : Bool → ℤ
  beyond w = away w (at x).east (at y).east

  abbrev second : Bool → Bool
  second w = lt_z (pos 0) (beyond w) || lt_z (pos 0) over

  -- the order of the easts says which slope the pair has
  by_easts : (t : Tops) {b c : Bool} → lt_z (at x).east (at y).east ≡ b → lt_z (at y).east (at x).east ≡ c
      → keeps at t (pair x y) ≡ keeps_of at t (cond b (some (slope (at x) (at y))) (cond c (some (slope (at y) (at x))) none)) x y
  by_easts t h g = ap₂ (λ (b c : Bool). keeps_of at t (cond b (some (slope (at x) (at y))) (cond c (some (slope (at y) (at x))) none)) x y) h g

  -- the first lies west
  module _ (h : lt_z (at x).east (at y).east ≡ true) where
    west_pair_west : keeps at (west K) (pair x y) ≡ chosen (lt_z over (pos 0)) true x y
    west_pair_west =
        by_easts (west K) h refl
        ∙ ap₂ (λ (b c : Bool). cond b (cond c y x ∷ []) (x ∷ y ∷ [])) (steeper K (at x) (at y)) h
        ∙ only_second x y (lt_z over (pos 0))

    west_pair_east : keeps at (east K) (pair x y) ≡ chosen true (lt_z (pos 0) over) x y
    west_pair_east =
        by_easts (east K) h refl
        ∙ ap₂ (λ (b c : Bool). cond b (cond c x y ∷ []) (x ∷ y ∷ [])) (flatter K (at x) (at y)) h
        ∙ only_first x y (lt_z (pos 0) over)

  -- the second lies west
  module _ (h : lt_z (at x).east (at y).east ≡ false) (g : lt_z (at y).east (at x).east ≡ true) where
    east_pair_west : keeps at (west K) (pair x y) ≡ chosen true (lt_z (pos 0) over) x y
    east_pair_west =
        by_easts (west K) h g
        ∙ ap₂ (λ (b c : Bool). cond b (cond c y x ∷ []) (x ∷ y ∷ [])) (steeper-back K (at x) (at y)) h
        ∙ only_first x y (lt_z (pos 0) over)

    east-pair-east : keeps at (east K) (pair x y) ≡ chosen (lt_z over (pos 0)) true x y
    east-pair-east =
        by_easts (east K) h g
        ∙ ap₂ (λ (b c : Bool). cond b (cond c x y ∷ []) (x ∷ y ∷ [])) (flatter_back K (at x) (at y)) h
        ∙ only_second x y (lt_z over (pos 0))

  -- one of the two lies west
  one_west : (w r : Bool) → lt_z (at x).east (at y).east ≡ r → lt_z (at y).east (at x).east ≡ not r
      → keeps at (towards w K) (pair x y) ≡ chosen (cond w (not r) r || lt_z over (pos 0)) (cond w r (not r) || lt_z (pos 0) over) x y
  one_west true true h g = west_pair_west h
  one_west false true h g = west_pair_east h
  one_west true false h g = east_pair_west h g
  one_west false false h g = east-pair-east h g

  -- so it is told by signs
  slanted_pair : (w : Bool) → (at x).east ≢ (at y).east
      → keeps at (towards w K) (pair x y) ≡ chosen (lt_z (beyond w) (pos 0) || lt_z over (pos 0)) (second w) x y
  slanted_pair w f =
      let a = (at x).east in
      let b = (at y).east in
      let back = apart a b f in
      one_west w (lt_z a b) refl back
      ∙ ap₂ (λ (s t : Bool). chosen (s || lt_z over (pos 0)) (t || lt_z (pos 0) over) x y)
      (ap (λ (t : Bool). cond w t (lt_z a b)) (sym back) ∙ away-below w a b)
      (ap (cond w (lt_z a b)) (sym back) ∙ away-above w a b)

  -- neither lies west
  upright_pair : (t : Tops) → (at x).east ≡ (at y).east
      → keeps at t (pair x y) ≡ chosen (not (lt_z (at x).north (at y).north)) (lt_z (at x).north (at y).north) x y
  upright_pair t e = by_easts t (level e) (level (sym e)) ∙ go (lt_z (at x).north (at y).north)
    where
      go : (b : Bool) → cond b y x ∷ [] ≡ chosen (not b) b x y
      go true = refl
      go false = refl

  -- then the excess has the sign of the way north
  upright_excess : (at x).east ≡ (at y).east → pos 0 <ℤ K.run → lt_z (pos 0) over ≡ lt_z (at x).north (at y).north
  upright_excess e r =
      same_order (pos 0) over (at x).north (at y).north
      (λ h. cancel-< (from_0< ρ (var 1) r) (from_0< ρ excess_of h ⊞ scaled no_way (var 0)) (var 3) (var 5) refl)
      (λ h. cancel-≤ (from_0< ρ (var 1) r) (from-≤0 ρ excess_of h ⊞ scaled no_way (⊝ var 0)) (var 5) (var 3) refl)
    where
      ρ : List ℤ
      ρ = K.rise ∷ K.run ∷ (at x).east ∷ (at x).north ∷ (at y).east ∷ (at y).north ∷ []

      excess_of : Ex
      excess_of = (var 5 ⊖ var 3) ⊗ var 1 ⊖ var 0 ⊗ (var 4 ⊖ var 2)

      no_way : Zero ρ (var 4 ⊖ var 2)
      no_way = from-≡ ρ (var 2) (var 4) e

  -- either way: of two at one position the first is kept
  abbrev first : Bool → Bool
  first w = (lt_z (beyond w) (pos 0) || lt_z over (pos 0)) || eqZ (beyond w) (pos 0) && eqZ over (pos 0)

  pub pair_keeps : (w : Bool) → pos 0 <ℤ K.run → keeps at (towards w K) (pair x y) ≡ chosen (first w) (second w) x y
  pair_keeps w r = go (eqZ (at x).east (at y).east) refl
    where
      go : (b : Bool) → eqZ (at x).east (at y).east ≡ b → keeps at (towards w K) (pair x y) ≡ chosen (first w) (second w) x y
      go true t =
          let e = test-eq (at x).east (at y).east t in
          let none = sym (level-away w e) in
          let up = sym (upright_excess e r) in
          upright_pair (towards w K) e
          ∙ ap₂ (λ (s t : Bool). chosen s t x y)
          (ap not up ∙ not-above over ∙ ap (λ (z : ℤ). (lt_z z (pos 0) || lt_z over (pos 0)) || eqZ z (pos 0) && eqZ over (pos 0)) none)
          (up ∙ ap (λ (z : ℤ). lt_z (pos 0) z || lt_z (pos 0) over) none)
      go false t =
          let f = test-ne (at x).east (at y).east t in
          let slanted = lt_z (beyond w) (pos 0) || lt_z over (pos 0) in
          slanted_pair w f
          ∙ ap (λ (s : Bool). chosen s (second w) x y)
          (sym (ap (λ (b : Bool). slanted || b && eqZ over (pos 0)) (ne_test (apart-away w (at x).east (at y).east f)) ∙ or-false slanted))
