-- The laws of slopes in scratch: one more, the same words, one slope written.
-- Assumes nothing.
use Rattle.std.specs.Prelude.{◌≡◌, refl, ◌⊎◌, ◌≢◌, ℕ, zero, suc, ◌+◌, ◌*◌, ◌<◌, pos, length, get_or, set, take, drop}
use Rattle.std.proofs.Common.{sym, ap, ap₂, ◌∙◌, subst, subst₂, inl, inr, not-suc-le-zero, le_of_suc-le-suc, eq-or-lt_of_le, add-one, arith, lit≤, length-append, get_or-take, drop-set-lt}
use mathlib.Core.List.Memᴰ
use mathlib.Core.List.{List, [], ◌∷◌, ◌++◌, Memᴰ}
use Rattle.std.proofs.Math.ListN.{length-set}
use Rattle.std.proofs.Math.Seq.{get_or-set_same, get_or-set_other}
use Rattle.std.proofs.lemmas.List.{drop-set-add}
use Rattle.whole.specs.Linear.{order, difference, negation}
use Rattle.whole.specs.Fits.{within-≤}
use Rattle.rules.specs.Lists.{insert, sorted}
use Rattle.rules.specs.Picker.{ranked}
use Rattle.rules.specs.Round.{Slope, slope_le}
use Rattle.slopes.specs.Fractions.{fraction, fraction_at, fractions, put, Part, Sound, Pickable, Near}
use Rattle.slopes.specs.Passes.{Alike}

-- ---- the words of one slope

pub near_part : {a b : ℕ} → Part a b → Near (fraction a b)
near_part {a} {b} h =
    let high = h.rise-high in
    let low = h.run_low in
    record {
      rise_near = within-≤ (omega (order, difference (pos a) (pos 2000000), negation (pos 2000000))) (omega (order, difference (pos a) (pos 2000000)));
      run_near = record { within = h.run-high };
      forward = omega order;
    }

-- ---- lists of slopes

pub one_more : (k : ℕ) (w : List ℕ) → fractions (k + 1) w ≡ fractions k w ++ (fraction_at w k ∷ [])
unfolding fractions
one_more k w = ap (λ (n : ℕ). fractions n w) (add-one k)

pub length-fractions : (k : ℕ) (w : List ℕ) → length (fractions k w) ≡ k
unfolding fractions
length-fractions zero w = refl
length-fractions (suc k) w = omega (arith, length-append (fractions k w) (fraction_at w k ∷ []), length-fractions k w)

-- a slope of the list stands at a place of it
pub record Place (k : ℕ) (w : List ℕ) (s : Slope) : Type 0 where
  pub place : ℕ
  pub inside : place < k
  pub is : s ≡ fraction_at w place

pub place_of : (k : ℕ) (w : List ℕ) {s : Slope} → Memᴰ s (fractions k w) → Place k w s
unfolding fractions
place_of zero w m = absurd (Memᴰ.not-nil m)
place_of (suc k) w {s} m = go (λ h. place_of k w h) (Memᴰ.append_cases (fractions k w) m)
  where
    go : (Memᴰ s (fractions k w) → Place k w s) → Memᴰ s (fractions k w) ⊎ Memᴰ s (fraction_at w k ∷ []) → Place (suc k) w s
    go ih (inl h) = let p = ih h in let i = p.inside in record { place = p.place; inside = omega arith; is = p.is }
    go ih (inr h) = record { place = k; inside = omega arith; is = Memᴰ.eq_of_singleton h }

pub near_of : {k : ℕ} {w : List ℕ} {s : Slope} → Sound k w → Memᴰ s (fractions k w) → Near s
near_of {k} {w} h m = let p = place_of k w m in subst Near (sym p.is) (near_part (h.part p.place p.inside))

pub fraction_in : (k : ℕ) (w : List ℕ) {j : ℕ} → j < k → Memᴰ (fraction_at w j) (fractions k w)
unfolding fractions
fraction_in zero w i = absurd (not-suc-le-zero i)
fraction_in (suc k) w {j} i = go (λ h. fraction_in k w h) (eq-or-lt_of_le (le_of_suc-le-suc i))
  where
    go : (j < k → Memᴰ (fraction_at w j) (fractions k w)) → (j ≡ k) ⊎ (j < k) → Memᴰ (fraction_at w j) (fractions (suc k) w)
    go ih (inl e) = Memᴰ.append_right (fractions k w) (Memᴰ.head (ap (fraction_at w) e))
    go ih (inr h) = Memᴰ.append_left (fraction_at w k ∷ []) (ih h)

-- ---- the same words

pub fractions-alike : (k : ℕ) {w v : List ℕ} → Alike (2 * k) w v → fractions k v ≡ fractions k w
unfolding fractions
fractions-alike zero h = refl
fractions-alike (suc k) {w} {v} h =
    ap₂ (λ (l : List Slope) (s : Slope). l ++ (s ∷ []))
    (fractions-alike k (record { same = λ j i. h.same j (omega arith) }))
    (ap₂ fraction (h.same (2 * k) (omega arith)) (h.same (2 * k + 1) (omega arith)))

pub part-is : {a b x y : ℕ} → x ≡ a → y ≡ b → Part a b → Part x y
part-is e f h = subst₂ Part (sym e) (sym f) h

pub sound_alike : {k : ℕ} {w v : List ℕ} → Alike (2 * k) w v → Sound k w → Sound k v
sound_alike {k} h s = record { part = λ j i. part-is (h.same (2 * j) (omega arith)) (h.same (2 * j + 1) (omega arith)) (s.part j i) }

pub alike_trans : {m : ℕ} {w v u : List ℕ} → Alike m w v → Alike m v u → Alike m w u
alike_trans h g = record { same = λ j i. g.same j i ∙ h.same j i }

pub alike-take : {m : ℕ} {w v : List ℕ} → take m v ≡ take m w → Alike m w v
alike-take {m} {w} {v} e =
    record { same = λ j i. sym (get_or-take m v j 0 i) ∙ ap (λ (l : List ℕ). get_or l j 0) e ∙ get_or-take m w j 0 i }

-- ---- one slope written

module _ (w : List ℕ) (k a b : ℕ) where
  pub length-put : length (put w k a b) ≡ length w
  unfolding put
  length-put = simp length-set

  pub put_other : (j : ℕ) → j ≢ 2 * k → j ≢ 2 * k + 1 → get_or (put w k a b) j 0 ≡ get_or w j 0
  unfolding put
  put_other j p q = get_or-set_other (set w (2 * k) a) (2 * k + 1) j b 0 q ∙ get_or-set_other w (2 * k) j a 0 p

  -- what lies before it stays
  pub put-alike : Alike (2 * k) w (put w k a b)
  put-alike = record { same = λ j h. put_other j (omega arith) (omega arith) }

  module _ (inside : 2 * k + 1 < length w) where
    pub put-rise : get_or (put w k a b) (2 * k) 0 ≡ a
    unfolding put
    put-rise = get_or-set_other (set w (2 * k) a) (2 * k + 1) (2 * k) b 0 (omega arith) ∙ get_or-set_same w (2 * k) a 0 (omega arith)

    pub put-run : get_or (put w k a b) (2 * k + 1) 0 ≡ b
    unfolding put
    put-run = get_or-set_same (set w (2 * k) a) (2 * k + 1) b 0 (omega (arith, length-set w (2 * k) a))

    -- behind the first k it is one more
    pub fractions-put : fractions (k + 1) (put w k a b) ≡ fractions k w ++ (fraction a b ∷ [])
    fractions-put =
        one_more k (put w k a b)
        ∙ ap₂ (λ (l : List Slope) (s : Slope). l ++ (s ∷ [])) (fractions-alike k put-alike) (ap₂ fraction put-rise put-run)

    pub sound_put : Part a b → Sound k w → Sound (k + 1) (put w k a b)
    sound_put p h = record { part = λ j i. go j (eq-or-lt_of_le (omega arith)) }
      where
        go : (j : ℕ) → (j ≡ k) ⊎ (j < k) → Part (get_or (put w k a b) (2 * j) 0) (get_or (put w k a b) (2 * j + 1) 0)
        go j (inl e) =
            subst (λ (m : ℕ). Part (get_or (put w k a b) (2 * m) 0) (get_or (put w k a b) (2 * m + 1) 0)) (sym e) (part-is put-rise put-run p)
        go j (inr i) = (sound_alike put-alike h).part j i

-- behind the first n, one slope written there and one written before
pub drop-put : (n : ℕ) (w : List ℕ) (k a b : ℕ) → drop (2 * n) (put w (n + k) a b) ≡ put (drop (2 * n) w) k a b
unfolding put
drop-put n w k a b =
    ap₂ (λ (i j : ℕ). drop (2 * n) (set (set w i a) j b)) (omega arith) (omega arith)
    ∙ drop-set-add (2 * n) (set w (2 * n + 2 * k) a) (2 * k + 1) b
    ∙ ap (λ (l : List ℕ). set l (2 * k + 1) b) (drop-set-add (2 * n) w (2 * k) a)

pub drop_put_before : (n : ℕ) (w : List ℕ) (k a b : ℕ) → k < n → drop (2 * n) (put w k a b) ≡ drop (2 * n) w
unfolding put
drop_put_before n w k a b h = drop-set-lt (2 * n) (set w (2 * k) a) (2 * k + 1) b (omega arith) ∙ drop-set-lt (2 * n) w (2 * k) a (omega arith)

pub sound_none : (w : List ℕ) → Sound 0 w
sound_none w = record { part = λ k h. absurd (not-suc-le-zero h) }

-- ---- an example: 3 over 2 and 1 over 1, with room behind them. The first in rank is the second
words : List ℕ
words = 2000003 ∷ 2 ∷ 2000001 ∷ 1 ∷ 0 ∷ 0 ∷ 0 ∷ 0 ∷ []

as_listed : fractions 2 words ≡ record { rise = pos 3; run = pos 2 } ∷ record { rise = pos 1; run = pos 1 } ∷ []
unfolding fractions words
as_listed = refl

as_asked : Pickable 2 1 words
unfolding words
as_asked = record { rank_low = omega arith; rank-high = omega arith; sound = record { part = parts }; room = omega arith }
  where
    parts : (k : ℕ) → k < 2 → Part (get_or words (2 * k) 0) (get_or words (2 * k + 1) 0)
    parts zero h = record { rise-high = lit≤ tt; run_low = lit≤ tt; run-high = lit≤ tt }
    parts (suc zero) h = record { rise-high = lit≤ tt; run_low = lit≤ tt; run-high = lit≤ tt }
    parts (suc (suc k)) h = absurd (not-suc-le-zero (le_of_suc-le-suc (le_of_suc-le-suc h)))

as_ranked : ranked slope_le (record { rise = pos 0; run = pos 1 }) 1 (fractions 2 words) ≡ record { rise = pos 1; run = pos 1 }
unfolding ranked sorted insert slope_le fractions words
as_ranked = refl
