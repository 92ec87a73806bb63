-- A round from its parts: two samples; no slope; and K with the tops.
-- Assumes nothing.
use Rattle.std.specs.Prelude.{◌≡◌, ℕ, ◌+◌, ◌/◌, ◌<◌, ◌≤◌, Bool, true, false, cond, ◌&&◌, List, [], ◌∷◌, ◌++◌, length, get_or, drop, ℤ}
use mathlib.Core.Path.{refl, sym, ap, ap₂, ◌∙◌}
use mathlib.Core.Option.{Option, none, some}
use native.Mathlib.Omega.{arith}
use lib.Signed.{le_z, lt_z}
use Rattle.rules.specs.Streams.{Stream}
use Rattle.rules.specs.Bridge.{ends}
use Rattle.rules.specs.Round.{Slope, slope_le, Group, pair, odd, paired, found, kept, Tops, unsought, west, slope_of, with_slope, slopes, left_of, right_of, keeps_of, keep, decided, round_with, round_by, round}
use Rattle.laws_ranks.specs.Ranks.{HasRank}
use Rattle.laws_rounds.specs.Slopes.{Up}
use Rattle.laws_rounds.specs.SameSlope.{round_by_counts}
use Rattle.round.specs.declared.tops.Tops as code
use Rattle.round.specs.Tops.{Topped}
use Rattle.round.specs.Keeping.{towards}

pub first_and_rest : (l : List ℕ) → 1 ≤ length l → get_or l 0 0 ∷ drop 1 l ≡ l
first_and_rest [] h = absurd (omega arith)
first_and_rest (x ∷ l) h = refl

module _ (at : ℕ → Stream) (a : ℤ) where
  pub round_of_two : (l : List ℕ) → length l ≡ 2
      → round at a l ≡ found (ends (left_of at (get_or l 0 0) (get_or l 1 0)) (right_of at (get_or l 0 0) (get_or l 1 0)))
  unfolding round
  round_of_two [] h = absurd (omega arith)
  round_of_two (x ∷ []) h = absurd (omega arith)
  round_of_two (x ∷ y ∷ []) h = refl
  round_of_two (x ∷ y ∷ z ∷ l) h = absurd (omega arith)

  pub round_of_more : (l : List ℕ) → 2 < length l → round at a l ≡ round_by at a (slopes at (paired l)) (get_or l 0 0) (drop 1 l)
  unfolding round
  round_of_more [] h = absurd (omega arith)
  round_of_more (x ∷ []) h = absurd (omega arith)
  round_of_more (x ∷ y ∷ []) h = absurd (omega arith)
  round_of_more (x ∷ y ∷ z ∷ l) h = refl

  -- ---- no slope: "stop here". Every pair is upright, and keeps what it keeps by any tops

  keeps_upright : (t u : Tops) (o : Option Slope) (ks : List Slope) (x y : ℕ) → with_slope at o ks ≡ [] → keeps_of at t o x y ≡ keeps_of at u o x y
  keeps_upright t u none ks x y e = refl
  keeps_upright t u (some k) ks x y e = absurd (omega (arith, ap length e))

  rest_upright : (o : Option Slope) (ks : List Slope) → with_slope at o ks ≡ [] → ks ≡ []
  rest_upright none ks e = e
  rest_upright (some k) ks e = absurd (omega (arith, ap length e))

  keep_upright : (t u : Tops) (gs : List (Group ℕ)) → slopes at gs ≡ [] → keep at t gs ≡ keep at u gs
  unfolding slopes keep
  keep_upright t u [] e = refl
  keep_upright t u (odd x ∷ gs) e = ap (λ (l : List ℕ). x ∷ l) (keep_upright t u gs e)
  keep_upright t u (pair x y ∷ gs) e =
      let o = slope_of at (pair x y) in
      ap₂ ◌++◌ (keeps_upright t u o (slopes at gs) x y e) (keep_upright t u gs (rest_upright o (slopes at gs) e))

  pub round-without : (l : List ℕ) (K : Slope) → 2 < length l → slopes at (paired l) ≡ [] → round at a l ≡ kept (keep at (towards true K) (paired l))
  round-without l K h e =
      round_of_more l h
      ∙ ap (λ (ks : List Slope). round_by at a ks (get_or l 0 0) (drop 1 l)) e
      ∙ ap (λ (m : List ℕ). kept (keep at unsought (paired m))) (first_and_rest l (omega arith))
      ∙ ap kept (keep_upright unsought (west K) (paired l) e)

  -- ---- K is any slope of the middle rank

  by_rank : (x : ℕ) (l : List ℕ) (ks : List Slope) → slopes at (paired (x ∷ l)) ≡ ks → 1 ≤ length ks
      → (K : Slope) → Up K → HasRank slope_le ((length ks + 1) / 2) ks K
      → round_by at a (slopes at (paired (x ∷ l))) x l ≡ round_with at a K x l
  by_rank x l [] e h K up r = absurd (omega arith)
  by_rank x l (k ∷ ks) e h K up r = round_by_counts at a x l k ks e K up r

  pub round_by_rank : (l : List ℕ) (ks : List Slope) → 2 < length l → slopes at (paired l) ≡ ks → 1 ≤ length ks
      → (K : Slope) → Up K → HasRank slope_le ((length ks + 1) / 2) ks K
      → round at a l ≡ round_with at a K (get_or l 0 0) (drop 1 l)
  round_by_rank l ks h e s K up r =
      let whole = first_and_rest l (omega arith) in
      round_of_more l h
      ∙ ap (λ (m : List ℕ). round_by at a (slopes at (paired m)) (get_or l 0 0) (drop 1 l)) (sym whole)
      ∙ by_rank (get_or l 0 0) (drop 1 l) ks (ap (λ (m : List ℕ). slopes at (paired m)) whole ∙ e) s K up r

  -- ---- the tops decide

  module _ (K : Slope) (l : List ℕ) (h : 1 ≤ length l) {t : code.Tops} (top : Topped at K l t) where
    by_tops : round_with at a K (get_or l 0 0) (drop 1 l) ≡ decided at a K t.left t.right (paired l)
    unfolding round_with
    by_tops =
        ap₂ (λ (i j : ℕ). decided at a K i j (paired (get_or l 0 0 ∷ drop 1 l))) (sym top.left_is) (sym top.right_is)
        ∙ ap (λ (m : List ℕ). decided at a K t.left t.right (paired m)) (first_and_rest l h)

    module _ {b c : Bool} (f : le_z t.from a ≡ b) (g : lt_z a t.to ≡ c) where
      by_tests : decided at a K t.left t.right (paired l)
          ≡ cond (b && c) (found (ends t.left t.right)) (kept (keep at (towards (le_z t.to a) K) (paired l)))
      by_tests =
          ap₂
          (λ (p q : Bool). cond p (found (ends t.left t.right)) (kept (keep at (towards q K) (paired l))))
          (ap₂ ◌&&◌ (ap (λ (z : ℤ). le_z z a) (sym top.from_is) ∙ f) (ap (lt_z a) (sym top.to_is) ∙ g))
          (ap (λ (z : ℤ). le_z z a) (sym top.to_is))

    pub tops_found : le_z t.from a ≡ true → lt_z a t.to ≡ true → found (ends t.left t.right) ≡ round_with at a K (get_or l 0 0) (drop 1 l)
    tops_found f g = sym (by_tops ∙ by_tests f g)

    pub tops_west : le_z t.from a ≡ true → lt_z a t.to ≡ false
        → kept (keep at (towards (le_z t.to a) K) (paired l)) ≡ round_with at a K (get_or l 0 0) (drop 1 l)
    tops_west f g = sym (by_tops ∙ by_tests f g)

    pub tops_east : le_z t.from a ≡ false → kept (keep at (towards (le_z t.to a) K) (paired l)) ≡ round_with at a K (get_or l 0 0) (drop 1 l)
    tops_east f = sym (by_tops ∙ by_tests f refl)
