-- Keys by which the tops are found, and the sample with the greatest key of the first i of a list, as a loop carries it: at the start, one sample more, at the
-- end; samples passed by their heights.
-- Assumes nothing.
use Rattle.std.specs.Prelude.{◌≡◌, ℕ, zero, suc, ◌+◌, ◌*◌, ◌<◌, ◌≤◌, Bool, true, false, cond, ◌&&◌, ◌||◌, List, [], ◌∷◌, length, get_or, drop, ℤ, pos, ◌+ℤ◌, ◌*ℤ◌, neg_ℤ, ◌≤ℤ◌, ◌<ℤ◌}
use mathlib.Core.Path.{refl, sym, ap, ap₂, ◌∙◌, subst, subst₂, fun_ext}
use mathlib.Core.Logic.{⊎_elim}
use mathlib.Core.List.{Memᴰ}
use native.Mathlib.Nat.{add-zero}
use native.Mathlib.Numerals.{add-one}
use native.Mathlib.Omega.{arith}
use lib.Signed.{lt_z, ≤ℤ_refl}
use lib.ListN.{drop_of_length-le}
use lib.Seq.{drop-cons, drop-drop}
use Rattle.whole.specs.Linear.{up, dn, order, sum, multiple}
use Rattle.whole.specs.Laws.{≤ℤ_trans, ≤ℤ_total, ≤ℤ_split, <ℤ→≤ℤ, lt_test, nlt_test, test-lt, test_nlt}
use Rattle.whole.specs.Solver.{var, num, ◌⊖◌, ◌⊗◌, ⊝◌, ring}
use Rattle.whole.specs.Fits.{Within, []ʷ, ◌∷ʷ◌, value-within, at_most, at_least}
use Rattle.rules.specs.Lists.{first_place, best_from}
use Rattle.rules.specs.Streams.{Stream, limit, eqZ}
use Rattle.rules.specs.Round.{Slope, height, left_top, right_top}
use Rattle.laws_outline.specs.ListLaws.{at_place_in}
use Rattle.laws_outline.specs.TwoKeys.{two_keys_yes, two_keys_no}
use Rattle.samples.specs.Positions.{Near}
use Rattle.round.specs.declared.tops.Top.{Top}
use Rattle.round.specs.Tops.{spread, scaled, key, better_of, reaches}
use Rattle.round.proofs.Choosing.{negated}

-- ---- the order of keys

-- a number times the spread, which is more than two numbers within the limit can differ by, and one within the limit
abbrev joint : ℤ → ℤ → ℤ
joint h x = pos spread *ℤ h +ℤ x

joint-is : (h x : ℤ) → up (joint h x) + (spread * dn h + dn x) ≡ spread * up h + up x + dn (joint h x)
joint-is h x = omega (arith, multiple spread h, sum (pos spread *ℤ h) x)

-- the first decides, and where the first are equal the second
joint-test : (h g : ℤ) {x y : ℤ} → Within x limit → Within y limit → lt_z (joint h x) (joint g y) ≡ (lt_z h g || eqZ g h && lt_z x y)
joint-test h g {x} {y} p q = go (lt_z h g || eqZ g h && lt_z x y) refl
  where
    go : (b : Bool) → (lt_z h g || eqZ g h && lt_z x y) ≡ b → lt_z (joint h x) (joint g y) ≡ b
    go true e =
        lt_test {a = joint h x} {b = joint g y}
        (⊎_elim
        (λ l. omega (order, joint-is h x, joint-is g y, at_most p, at_least q))
        (λ k. omega (order, joint-is h x, joint-is g y, k.0, k.1))
        (two_keys_yes h g g h x y e))
    go false e =
        let k = two_keys_no h g g h x y e in
        nlt_test {a = joint h x} {b = joint g y}
        (⊎_elim
        (λ l. omega (order, joint-is h x, joint-is g y, at_least p, at_most q))
        (λ s. omega (order, joint-is h x, joint-is g y, k.1 s))
        (≤ℤ_split k.0))

-- so the order of keys by K, scaled, is that of heights by K, and between equal heights that of easts as a side counts them
module _ (side : ℤ → ℤ) (K : Slope) {k : Slope} (e : k ≡ scaled K) where
  height-scaled : (s : Stream) → height k s ≡ pos spread *ℤ height K s
  unfolding height
  height-scaled s =
      ap (λ (j : Slope). height j s) e
      ∙ ring (K.run ∷ s.north ∷ K.rise ∷ s.east ∷ [])
      (var 0 ⊗ num (pos spread) ⊗ var 1 ⊖ var 2 ⊗ num (pos spread) ⊗ var 3)
      (num (pos spread) ⊗ (var 0 ⊗ var 1 ⊖ var 2 ⊗ var 3))
      refl

  key-test : (p q : Stream) → Within (side p.east) limit → Within (side q.east) limit
      → lt_z (key side k p) (key side k q)
      ≡ (lt_z (height K p) (height K q) || eqZ (height K q) (height K p) && lt_z (side p.east) (side q.east))
  key-test p q h j =
      ap₂ (λ (y z : ℤ). lt_z (y +ℤ side p.east) (z +ℤ side q.east)) (height-scaled p) (height-scaled q)
      ∙ joint-test (height K p) (height K q) h j

  -- the lower of two has the lower key
  key-lower : (p q : Stream) → Within (side p.east) limit → Within (side q.east) limit → height k p <ℤ height k q → key side k p <ℤ key side k q
  key-lower p q h j l =
      omega (
        order,
        height-scaled p,
        height-scaled q,
        multiple spread (height K p),
        multiple spread (height K q),
        sum (height k p) (side p.east),
        sum (height k q) (side q.east),
        at_most h,
        at_least j,
      )

-- ---- the sample with the greatest key

-- the first of two has the greater key
abbrev pub greater : (ℕ → ℤ) → ℕ → ℕ → Bool
greater key_of x y = lt_z (key_of y) (key_of x)

-- the best so far stays the best over items that it beats, up to the first that passes a test
passed_beaten : (beats : ℕ → ℕ → Bool) (test : ℕ → Bool) {t : ℕ} → ((x : ℕ) → test x ≡ false → beats x t ≡ false)
    → (l : List ℕ) → best_from beats t (drop (first_place test l) l) ≡ best_from beats t l
unfolding first_place best_from
passed_beaten beats test f [] = refl
passed_beaten beats test {t} f (x ∷ l) = go (test x) refl (passed_beaten beats test f l)
  where
    go : (b : Bool) → test x ≡ b → best_from beats t (drop (first_place test l) l) ≡ best_from beats t l
        → best_from beats t (drop (cond b zero (suc (first_place test l))) (x ∷ l)) ≡ best_from beats (cond (beats x t) x t) l
    go true e r = refl
    go false e r = r ∙ ap (λ (b : Bool). best_from beats (cond b x t) l) (sym (f x e))

module _ (key_of : ℕ → ℤ) (list : List ℕ) where
  abbrev beats : ℕ → ℕ → Bool
  beats = greater key_of

  abbrev first : ℕ
  first = get_or list 0 0

  -- the best of all is the best of this listed one and the samples from place i on
  pub record Leads (i : ℕ) (t : Top) : Type 0 where
    pub given : Memᴰ t.number list
    pub key-is : t.key ≡ key_of t.number
    pub leads : best_from beats t.number (drop i list) ≡ best_from beats first (drop 1 list)

  pub leads_first : {z : ℤ} → 1 ≤ length list → z ≡ key_of first → Leads 1 (record { key = z; number = first })
  leads_first h k = record { given = at_place_in list 0 0 h; key-is = k; leads = refl }

  module _ (i : ℕ) (h : i < length list) {t : Top} (g : Leads i t) where
    abbrev y : ℕ
    y = get_or list i 0

    pub leads_more : {z : ℤ} {u : Top} → z ≡ key_of y → u ≡ better_of t z y → Leads (i + 1) u
    unfolding best_from
    leads_more {z} k e = subst (Leads (i + 1)) (sym e) (go (lt_z t.key z) (sym (ap₂ lt_z g.key-is k)))
      where
        on : {b : Bool} → beats y t.number ≡ b → best_from beats (cond b y t.number) (drop (i + 1) list) ≡ best_from beats first (drop 1 list)
        on e =
            ap₂ (λ (b : Bool) (n : ℕ). best_from beats (cond b y t.number) (drop n list)) (sym e) (add-one i)
            ∙ sym (ap (best_from beats t.number) (drop-cons list i 0 h))
            ∙ g.leads

        go : (b : Bool) → beats y t.number ≡ b → Leads (i + 1) (cond b (record { key = z; number = y }) t)
        go true e = record { given = at_place_in list i 0 h; key-is = k; leads = on e }
        go false e = record { given = g.given; key-is = g.key-is; leads = on e }

  -- one that leads goes on leading where all that is passed is beaten: up to the first place that passes a test, or not at all
  pub leads_on : (test : ℕ → Bool) (short : Bool) {i : ℕ} {t : Top} → ((x : ℕ) → test x ≡ false → beats x t.number ≡ false)
      → Leads i t → Leads (i + cond short 0 (first_place test (drop i list))) t
  leads_on test true {i} {t} f g = subst (λ (n : ℕ). Leads n t) (sym (add-zero i)) g
  leads_on test false {i} {t} f g =
      record {
        given = g.given;
        key-is = g.key-is;
        leads =
            ap (best_from beats t.number) (sym (drop-drop (first_place test (drop i list)) i list))
            ∙ passed_beaten beats test f (drop i list)
            ∙ g.leads;
      }

  pub leads_all : {best : ℕ → ℕ → Bool} {i : ℕ} {t : Top} → beats ≡ best → length list ≤ i → Leads i t → t.number ≡ best_from best first (drop 1 list)
  unfolding best_from
  leads_all {t} e h g =
      sym (ap (best_from beats t.number) (drop_of_length-le list h)) ∙ g.leads ∙ ap (λ (b : ℕ → ℕ → Bool). best_from b first (drop 1 list)) e

-- the first of two samples is no higher than the second
abbrev pub NoHigher : (ℕ → Stream) → Slope → ℕ → ℕ → Type 0
NoHigher at k x y = height k (at x) ≤ℤ height k (at y)

-- ---- the greatest keys are the tops'

module _ (at : ℕ → Stream) (near : (x : ℕ) → Near (at x)) (K : Slope) {k : Slope} (e : k ≡ scaled K) where
  turned : (x : ℕ) → Within (neg_ℤ (at x).east) limit
  turned x = value-within ((near x).east_near ∷ʷ []ʷ) (⊝ var 0)

  pub left-greater : greater (λ x. key neg_ℤ k (at x)) ≡ left_top at K
  unfolding left_top
  left-greater =
      fun_ext (λ x. fun_ext (λ y. key-test neg_ℤ K e (at y) (at x) (turned y) (turned x)
      ∙ ap (λ (b : Bool). lt_z (height K (at y)) (height K (at x)) || eqZ (height K (at x)) (height K (at y)) && b)
      (negated (at x).east (at y).east)))

  pub right_greater : greater (λ x. key (λ z. z) k (at x)) ≡ right_top at K
  unfolding right_top
  right_greater = fun_ext (λ x. fun_ext (λ y. key-test (λ z. z) K e (at y) (at x) (near y).east_near (near x).east_near))

  -- ---- samples passed by their heights

  -- what does not reach a top is beaten by all that do
  beaten : (side : ℤ → ℤ) → ((x : ℕ) → Within (side (at x).east) limit) → (top t : ℕ) → NoHigher at k top t
      → (x : ℕ) → reaches at k top x ≡ false → greater (λ y. key side k (at y)) x t ≡ false
  beaten side w top t h x f = nlt_test (<ℤ→≤ℤ (key-lower side K e (at x) (at t) (w x) (w t) (omega order)))

  pub left_beaten : (top t : ℕ) → NoHigher at k top t → (x : ℕ) → reaches at k top x ≡ false → greater (λ y. key neg_ℤ k (at y)) x t ≡ false
  left_beaten = beaten neg_ℤ turned

  pub right_beaten : (top t : ℕ) → NoHigher at k top t → (x : ℕ) → reaches at k top x ≡ false → greater (λ y. key (λ z. z) k (at y)) x t ≡ false
  right_beaten = beaten (λ z. z) (λ x. (near x).east_near)

  -- one of no greater key is no higher
  by_keys : (x y : ℕ) → key (λ z. z) k (at x) ≤ℤ key (λ z. z) k (at y) → NoHigher at k x y
  by_keys x y h =
      ⊎_elim (λ l. l) (λ l. absurd (apart (key-lower (λ z. z) K e (at y) (at x) (near y).east_near (near x).east_near l)))
      (≤ℤ_total (height k (at x)) (height k (at y)))
    where
      apart : key (λ z. z) k (at y) <ℤ key (λ z. z) k (at x) → ⊥
      apart l = omega order

  -- so with one sample more the top furthest west stays no higher than the one furthest east
  pub no_higher_more : (t u : Top) (x : ℕ) (y z : ℤ) {v w : Top} → u.key ≡ key (λ z. z) k (at u.number) → z ≡ key (λ z. z) k (at x)
      → v ≡ better_of t y x → w ≡ better_of u z x → NoHigher at k t.number u.number → NoHigher at k v.number w.number
  no_higher_more t u x y z p q r s h =
      subst₂ (λ (v w : Top). NoHigher at k v.number w.number) (sym r) (sym s) (go (lt_z t.key y) (lt_z u.key z) (sym (ap₂ lt_z p q)))
    where
      go : (b c : Bool) → lt_z (key (λ z. z) k (at u.number)) (key (λ z. z) k (at x)) ≡ c
          → NoHigher at k (cond b (record { key = y; number = x }) t).number (cond c (record { key = z; number = x }) u).number
      go true true f = ≤ℤ_refl (height k (at x))
      go true false f = by_keys x u.number (test_nlt _ _ f)
      go false true f = ≤ℤ_trans h (by_keys u.number x (<ℤ→≤ℤ (test-lt _ _ f)))
      go false false f = h
