-- "A part is taken exactly if its value is a whole number within the limit; minus zero is taken as 0": the rule `part`, against the value of a float.
-- `HasValue x s n 1` says that x is finite, has the sign s, and is n in size.
-- Assumes nothing.
use Rattle.std.specs.Prelude.{◌≡◌, ℕ, ◌*◌, ◌/◌, ◌%◌, ◌≤◌, Bool, true, false, cond, ℤ, pos, ◌==◌, nat_lt, refl, Float}
use Rattle.std.proofs.Common.{sym, ◌∙◌, mul-one, mul-le-mul_right, mul-div_cancel, div-add-mod', arith, le-ltb, ltb-false, eqb-true}
use Rattle.std.proofs.Math.Nat.{mul-mod_left, div-le_of_le-mul}
use Rattle.std.specs.Float.{nan, inf, fin}
use Rattle.std.specs.Float.Ieee.{up, down}
use Rattle.std.specs.Float.Ieee.Fits.{down_pos}
use Rattle.std.specs.Float.Ieee.Exact.{HasValue}
use Rattle.rules.specs.Streams.{limit}
use Rattle.rules.specs.Door.{whole, no_float, signed, part}

pub size_within : (m : ℕ) (e : ℤ) → m * up e ≤ limit * down e → m * up e / down e ≤ limit
size_within m e h = div-le_of_le-mul (down e) (omega arith)

pub taken_if : (x : Float) (s : Bool) (n : ℕ) → HasValue x s n 1 → n ≤ limit → part x ≡ whole (signed s n)
unfolding part
taken_if nan s n v h = elim v [ ]
taken_if (inf _) s n v h = elim v [ ]
taken_if (fin t m e) s n v h =
    let size : m * up e ≡ n * down e = sym (mul-one (m * up e)) ∙ v.1 in
    rw (size, le-ltb (limit * down e) (n * down e) (mul-le-mul_right (down e) h), mul-mod_left n (down e), mul-div_cancel n (down_pos e), v.0)

-- a part that is taken has a whole number within the limit for its value, and is taken as that
pub record Taken (x : Float) (z : ℤ) : Type 0 where
  pub sign : Bool
  pub size : ℕ
  pub value : HasValue x sign size 1
  pub within : size ≤ limit
  pub is : z ≡ signed sign size

pub taken_only_if : (x : Float) (z : ℤ) → part x ≡ whole z → Taken x z
unfolding part
taken_only_if nan z e = let no_way : ◌≡◌ {A = ℕ} 0 1 = cc in absurd (omega arith)
taken_only_if (inf s) z e = let no_way : ◌≡◌ {A = ℕ} 0 1 = cc in absurd (omega arith)
taken_only_if (fin s m e) z t = by_tests (nat_lt (limit * down e) (m * up e)) refl (m * up e % down e == 0) refl t
  where
    by_tests : (b : Bool) → nat_lt (limit * down e) (m * up e) ≡ b → (c : Bool) → (m * up e % down e == 0) ≡ c →
        cond b (no_float 13 (fin s m e)) (cond c (whole (signed s (m * up e / down e))) (no_float 14 (fin s m e))) ≡ whole z →
        Taken (fin s m e) z
    by_tests true p c q u = let no_way : ◌≡◌ {A = ℕ} 0 1 = cc in absurd (omega arith)
    by_tests false p false q u = let no_way : ◌≡◌ {A = ℕ} 0 1 = cc in absurd (omega arith)
    by_tests false p true q u =
        record {
          sign = s;
          size = m * up e / down e;
          value = (refl, omega (arith, div-add-mod' (m * up e) (down e), eqb-true (m * up e % down e) 0 q));
          within = size_within m e (ltb-false (limit * down e) (m * up e) p);
          is = cc;
        }

pub minus-zero : part (fin true 0 (pos 0)) ≡ whole (pos 0)
unfolding part
minus-zero = refl
