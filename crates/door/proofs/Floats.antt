-- What the door's tests say of a float, each against the rule's `part`. The code has the limit as the float 15625 * 2 ^ 6, and zero as 0 * 2 ^ 0.
-- Assumes nothing.
use Rattle.std.proofs.Common.{◌≡◌, ℕ, zero, suc, ◌+◌, ◌-◌, ◌*◌, ◌/◌, ◌%◌, ◌^◌, ◌<◌, ◌≤◌, min, Bool, true, false, cond, not, ◌&&◌, ◌||◌, T, eqb, ltb, ◌⊎◌, ℤ, pos, sym, refl, ap, ◌∙◌, subst, inl, inr, true≢false, div-add-mod', zero-mul, mul-one, arith, le→leb, lt→ltb, ltb-false, le-ltb, lt-ltb, eq-eqb, ne_eqb, eqb-true, le-leb}
use mathlib.Core.Bool.{beq, and-true, or-true, false≢true}
use native.Mathlib.Nat.{zero-div}
use lib.Dec.{eqb-suc-zero}
use lib.Ieee.{Float, nan, inf, fin, binary64, up, down, lt, le, eq, ne, round, of_int, to_signed, in_float, in_signed, whole as wholeᶠ}
use lib.Ieee.Fits.{down_pos}
use lib.Ieee.Compare.{differs_from_itself}
use lib.Ieee.Exact.{HasValue}
use lib.Ieee.Back.{round_whole}
use lib.Ieee.Casts.{to_signed_cut}
use borrow.Author.Tests.{eqb-false, not-true, not-false}
use Rattle.rules.specs.Streams.{limit}
use Rattle.rules.specs.Door.{whole, no, no_float, signed, part}
use Rattle.door.specs.Exactly.{size_within}

abbrev pub most_float : Bool → Float
most_float s = fin s 15625 (pos 6)

abbrev pub zero_float : Float
zero_float = fin false 0 (pos 0)

-- ---- not a number, and beyond the limit

pub not-number : (x : Float) → ne x x ≡ true → no 12 ≡ part x
unfolding part
not-number x h = ap part (sym (differs_from_itself x (subst T (sym h) tt)))

pub too_low : (x : Float) → lt x (most_float true) ≡ true → no_float 13 x ≡ part x
unfolding part lt
too_low nan h = absurd (false≢true h)
too_low (inf s) h = refl
too_low (fin false m e) h = absurd (false≢true h)
too_low (fin true m e) h = rw (rw mul-one at h)

pub too_high : (x : Float) → lt (most_float false) x ≡ true → no_float 13 x ≡ part x
unfolding part lt
too_high nan h = absurd (false≢true h)
too_high (inf s) h = refl
too_high (fin true m e) h = absurd (false≢true h)
too_high (fin false m e) h = rw (rw mul-one at h)

-- what is left is finite, and within the limit
abbrev pub Within : Float → Type 0
Within nan = ⊥
Within (inf s) = ⊥
Within (fin s m e) = m * up e ≤ limit * down e

pub within : (x : Float) → ne x x ≡ false → lt x (most_float true) ≡ false → lt (most_float false) x ≡ false → Within x
unfolding ne lt
within nan n l h = absurd (true≢false n)
within (inf true) n l h = absurd (true≢false l)
within (inf false) n l h = absurd (true≢false h)
within (fin true m e) n l h = ltb-false (limit * down e) (m * up e) (rw mul-one at l)
within (fin false m e) n l h = ltb-false (limit * down e) (m * up e) (rw mul-one at h)

-- ---- the whole part

-- a size a / d within the limit is far from the ends of 64 bits
far_off : (a d : ℕ) → 0 < d → a ≤ limit * d →
    (ltb (a * 1) (2 ^ 63 * d) ≡ true) × (ltb 0 (a * 1 + 2 ^ 63 * d) ≡ true) × (ltb 0 (2 ^ 63 * d + a * 1) ≡ true)
far_off a d p h =
    (lt-ltb (a * 1) (2 ^ 63 * d) (omega arith), lt-ltb 0 (a * 1 + 2 ^ 63 * d) (omega arith), lt-ltb 0 (2 ^ 63 * d + a * 1) (omega arith))

pub truncates : (x : Float) → Within x → T (le (fin true 1 (pos 63)) x) × T (lt x (fin false 1 (pos 63)))
unfolding le lt
truncates nan h = elim h [ ]
truncates (inf _) h = elim h [ ]
truncates (fin true m e) h = let f = far_off (m * up e) (down e) (down_pos e) h in (rw f.0 tt, rw f.1 tt)
truncates (fin false m e) h = let f = far_off (m * up e) (down e) (down_pos e) h in (rw f.2 tt, rw f.0 tt)

-- nothing is brought to an end of the range
whole_part : (s : Bool) (m : ℕ) (e : ℤ) → m * up e ≤ limit * down e → to_signed 63 (fin s m e) ≡ signed s (m * up e / down e)
unfolding to_signed
whole_part true m e h =
    let l = size_within m e h in
    let c : min (m * up e / down e) (2 ^ 63) ≡ m * up e / down e = omega arith in
    rw c
whole_part false m e h =
    let l = size_within m e h in
    let c : min (m * up e / down e) (2 ^ 63 - 1) ≡ m * up e / down e = omega arith in
    rw c

signed_in_float : (s : Bool) (n : ℕ) → n ≤ limit → T (in_float binary64 (signed s n))
unfolding in_float
signed_in_float false n h = le→leb n (2 ^ 53) (omega arith)
signed_in_float true zero h = tt
signed_in_float true (suc n) h = lt→ltb n (2 ^ 53) (omega arith)

pub whole_part_fits : (x : Float) → Within x → T (in_float binary64 (to_signed 63 x))
whole_part_fits nan h = elim h [ ]
whole_part_fits (inf _) h = elim h [ ]
whole_part_fits (fin s m e) h = rw (whole_part s m e h) (signed_in_float s (m * up e / down e) (size_within m e h))

-- ---- fraction: whether a float equals its own whole part

-- a / d is q, and r is left over; b / h is q
level_if_whole : (a b d h q r : ℕ) → 0 < h → q * d + r ≡ a → b * 1 ≡ q * h → eqb (b * d) (a * h) ≡ eqb r 0
level_if_whole a b d h q zero p ea eb =
    eq-eqb (b * d) (a * h) (omega (arith, ap (λ (x : ℕ). x * h) ea, ap (λ (x : ℕ). x * d) eb))
level_if_whole a b d h q (suc r) p ea eb =
    ne_eqb (b * d) (a * h) (λ e. omega (arith, e, ap (λ (x : ℕ). x * h) ea, ap (λ (x : ℕ). x * d) eb)) ∙ sym (eqb-suc-zero r)

-- two values are level with the same sign, or with no size
same_sign : (u s : Bool) (b : Bool) → u ≡ s → beq u s || b ≡ true
same_sign true true b e = refl
same_sign false false b e = refl
same_sign true false b e = absurd (true≢false e)
same_sign false true b e = absurd (false≢true e)

no_size : (b d h q : ℕ) (c : Bool) → q ≡ 0 → b * 1 ≡ q * h → c || eqb (b * d) 0 ≡ true
no_size b d h q c z e =
    let b_zero : b ≡ 0 = omega (arith, ap (λ (x : ℕ). x * h) z, zero-mul h) in
    rw (eq-eqb (b * d) 0 (omega (arith, ap (λ (x : ℕ). x * d) b_zero))) (or-true c)

-- y has the size q of the whole part, and its sign unless it has no size
equals_whole_part : (y : Float) (t s : Bool) (m : ℕ) (e : ℤ) (q : ℕ) → m * up e / down e ≡ q → HasValue y t q 1 → (t ≡ s) ⊎ (q ≡ 0) →
    eq y (fin s m e) ≡ eqb (m * up e % down e) 0
unfolding eq
equals_whole_part nan t s m e q is v o = elim v [ ]
equals_whole_part (inf _) t s m e q is v o = elim v [ ]
equals_whole_part (fin u k g) t s m e q is v o =
    let a = m * up e in
    let b = k * up g in
    rw (sign o)
    (and-true (eqb (b * down e) (a * down g))
    ∙ level_if_whole a b (down e) (down g) q (a % down e) (down_pos g) (rw is at (div-add-mod' a (down e))) v.1)
  where
    sign : (t ≡ s) ⊎ (q ≡ 0) → beq u s || eqb (k * up g * down e) 0 ≡ true
    sign (inl p) = same_sign u s (eqb (k * up g * down e) 0) (v.0 ∙ p)
    sign (inr z) = no_size (k * up g) (down e) (down g) q (beq u s) z v.1

-- minus zero's whole part is the zero without a sign, which equals it
equals-signed : (s : Bool) (q m : ℕ) (e : ℤ) → m * up e / down e ≡ q → q ≤ limit →
    eq (of_int binary64 (signed s q)) (fin s m e) ≡ eqb (m * up e % down e) 0
unfolding of_int
equals-signed false q m e is l =
    equals_whole_part (round binary64 false q 1) false false m e q is (round_whole binary64 false q (omega arith)) (inl refl)
equals-signed true zero m e is l =
    equals_whole_part (round binary64 false zero 1) false true m e zero is (round_whole binary64 false zero (omega arith)) (inr refl)
equals-signed true (suc q) m e is l =
    equals_whole_part (round binary64 true (suc q) 1) true true m e (suc q) is (round_whole binary64 true (suc q) (omega arith)) (inl refl)

equals_truncated : (s : Bool) (m : ℕ) (e : ℤ) → m * up e ≤ limit * down e →
    eq (of_int binary64 (to_signed 63 (fin s m e))) (fin s m e) ≡ eqb (m * up e % down e) 0
equals_truncated s m e h = rw (whole_part s m e h) (equals-signed s (m * up e / down e) m e refl (size_within m e h))

pub fraction_found : (x : Float) → Within x → ne (of_int binary64 (to_signed 63 x)) x ≡ true → no_float 14 x ≡ part x
unfolding part ne
fraction_found nan h t = elim h [ ]
fraction_found (inf _) h t = elim h [ ]
fraction_found (fin s m e) h t =
    let r = sym (equals_truncated s m e h) ∙ not-true _ t in
    rw (le-ltb (limit * down e) (m * up e) h, r)

-- what is left is a whole number
abbrev pub NoFraction : Float → Type 0
NoFraction nan = ⊥
NoFraction (inf s) = ⊥
NoFraction (fin s m e) = eqb (m * up e % down e) 0 ≡ true

pub no_fraction : (x : Float) → Within x → ne (of_int binary64 (to_signed 63 x)) x ≡ false → NoFraction x
unfolding ne
no_fraction nan h t = elim h [ ]
no_fraction (inf _) h t = elim h [ ]
no_fraction (fin s m e) h t = sym (equals_truncated s m e h) ∙ not-false _ t

-- ---- zero, with either sign, and the cast

absorbed : (p q : Bool) → p && (q || p) ≡ p
absorbed true q = or-true q
absorbed false q = refl

equals-zero : (s : Bool) (m : ℕ) (e : ℤ) → eq (fin s m e) zero_float ≡ eqb (m * up e) 0
unfolding eq
equals-zero s m e = rw (mul-one (m * up e), zero-mul (down e)) (absorbed (eqb (m * up e) 0) (beq s false))

no_sign : (s : Bool) → signed s 0 ≡ pos 0
no_sign true = refl
no_sign false = refl

pub zero_taken : (x : Float) → Within x → NoFraction x → eq x zero_float ≡ true → whole (pos 0) ≡ part x
unfolding part
zero_taken nan h w t = elim h [ ]
zero_taken (inf _) h w t = elim h [ ]
zero_taken (fin s m e) h w t =
    let z = eqb-true (m * up e) 0 (sym (equals-zero s m e) ∙ t) in
    rw (le-ltb (limit * down e) (m * up e) h, w, z, zero-div, no_sign)

not-zero : (s : Bool) (m : ℕ) (e : ℤ) → eq (fin s m e) zero_float ≡ false → eqb m 0 ≡ false
not-zero s m e t =
    ne_eqb m 0 (λ z. eqb-false (m * up e) 0 (sym (equals-zero s m e) ∙ t) (ap (λ (x : ℕ). x * up e) z ∙ zero-mul (up e)))

pub cast_fits : (x : Float) → Within x → NoFraction x → eq x zero_float ≡ false → T (in_signed binary64 31 x)
unfolding in_signed wholeᶠ
cast_fits nan h w t = elim h [ ]
cast_fits (inf _) h w t = elim h [ ]
cast_fits (fin s m e) h w t =
    let q = m * up e / down e in
    let l : q ≤ limit = size_within m e h in
    rw (w, le-leb q (2 ^ 53) (omega arith), not-zero s m e t, le-leb q (2 ^ 31) (omega arith), lt-ltb q (2 ^ 31) (omega arith)) (either s)
  where
    either : (s : Bool) → T (not (s && false) && cond s true true)
    either true = tt
    either false = tt

pub cast_taken : (x : Float) → Within x → NoFraction x → T (in_signed binary64 31 x) → whole (to_signed 31 x) ≡ part x
unfolding part
cast_taken nan h w t = elim h [ ]
cast_taken (inf _) h w t = elim h [ ]
cast_taken (fin true m e) h w t = rw (to_signed_cut binary64 31 true m e t, le-ltb (limit * down e) (m * up e) h, w)
cast_taken (fin false m e) h w t = rw (to_signed_cut binary64 31 false m e t, le-ltb (limit * down e) (m * up e) h, w)
