-- Linear facts over the integers, by omega: an integer is the difference of two naturals, `up z` and `dn z`, and the orders
-- and the equality of integers are read as orders and equalities of such naturals. Assumes nothing.
use Rattle.std.specs.Prelude.{◌≡◌, refl, ◌≢◌, ◌⊎◌, Bool, true, false, not, cond, ℕ, zero, suc, ◌+◌, ◌*◌, ◌-◌, ◌≤◌, ◌<◌, T, leb, ltb, ℤ, pos, negsuc, neg_ℤ, ◌+ℤ◌, ◌-ℤ◌, ◌*ℤ◌, ◌≤ℤ◌, ◌<ℤ◌}
use Rattle.std.proofs.Common.{sym, ap, ◌∙◌, subst, inl, inr, ⊎_elim, arith, ltb→lt, nltb→le, le→leb, lt→ltb, leb→le, T_not}
use Rattle.std.proofs.Math.Dec.{nleb→lt}
use Rattle.std.proofs.Math.IntN.{sub_ℕ}
use Rattle.std.specs.Int.Signed.{lt_z, le_z, lt_z_yes, le_z_yes, ≤ℤ_refl}

-- z is `up z` less `dn z`, and one of the two is 0
abbrev pub up : ℤ → ℕ
up (pos n) = n
up (negsuc n) = 0

abbrev pub dn : ℤ → ℕ
dn (pos n) = 0
dn (negsuc n) = suc n

-- ---- the orders and the equality, both ways
le_cases : (a b : ℤ) → T (le_z a b) → up a + dn b ≤ up b + dn a
le_cases (pos a) (pos b) t = omega (arith, leb→le a b t)
le_cases (pos a) (negsuc b) t = absurd t
le_cases (negsuc a) (pos b) t = omega arith
le_cases (negsuc a) (negsuc b) t = omega (arith, leb→le b a t)

pub read-le : {a b : ℤ} → a ≤ℤ b → up a + dn b ≤ up b + dn a
read-le {a} {b} h = le_cases a b h.le

lt_cases : (a b : ℤ) → T (lt_z a b) → up a + dn b < up b + dn a
lt_cases (pos a) (pos b) t = omega (arith, ltb→lt a b t)
lt_cases (pos a) (negsuc b) t = absurd t
lt_cases (negsuc a) (pos b) t = omega arith
lt_cases (negsuc a) (negsuc b) t = omega (arith, ltb→lt b a t)

pub read-lt : {a b : ℤ} → a <ℤ b → up a + dn b < up b + dn a
read-lt {a} {b} h = lt_cases a b h.lt

pub read-eq : {a b : ℤ} → a ≡ b → up a + dn b ≡ up b + dn a
read-eq {a} {b} e = ap (λ (z : ℤ). up a + dn z) (sym e) ∙ ap (λ (z : ℤ). up z + dn a) e

le-back : (a b : ℤ) → up a + dn b ≤ up b + dn a → T (le_z a b)
le-back (pos a) (pos b) h = le→leb a b (omega arith)
le-back (pos a) (negsuc b) h = omega arith
le-back (negsuc a) (pos b) h = tt
le-back (negsuc a) (negsuc b) h = le→leb b a (omega arith)

pub prove_le : {a b : ℤ} → up a + dn b ≤ up b + dn a → a ≤ℤ b
prove_le {a} {b} h = le_z_yes (le-back a b h)

lt_back : (a b : ℤ) → up a + dn b < up b + dn a → T (lt_z a b)
lt_back (pos a) (pos b) h = lt→ltb a b (omega arith)
lt_back (pos a) (negsuc b) h = omega arith
lt_back (negsuc a) (pos b) h = tt
lt_back (negsuc a) (negsuc b) h = lt→ltb b a (omega arith)

pub prove_lt : {a b : ℤ} → up a + dn b < up b + dn a → a <ℤ b
prove_lt {a} {b} h = lt_z_yes (lt_back a b h)

eq-back : (a b : ℤ) → up a + dn b ≡ up b + dn a → a ≡ b
eq-back (pos a) (pos b) h = ap pos (omega arith)
eq-back (pos a) (negsuc b) h = absurd (omega arith)
eq-back (negsuc a) (pos b) h = absurd (omega arith)
eq-back (negsuc a) (negsuc b) h = ap negsuc (omega arith)

pub prove_eq : {a b : ℤ} → up a + dn b ≡ up b + dn a → a ≡ b
prove_eq {a} {b} h = eq-back a b h

-- ---- the tests that code makes, and what is denied (a negation is listed: `read-not-le h`)
-- a test that answered true, as a type
T_true : {b : Bool} → b ≡ true → T b
T_true e = subst T (sym e) tt

T_false : {b : Bool} → b ≡ false → T (not b)
T_false e = subst (λ (b : Bool). T (not b)) (sym e) tt

le-or-lt : (m n : ℕ) → (m ≤ n) ⊎ (n < m)
le-or-lt m n = go (leb m n) (leb→le m n) (nleb→lt m n)
  where
    go : (t : Bool) → (T t → m ≤ n) → (T (not t) → n < m) → (m ≤ n) ⊎ (n < m)
    go true y n = inl (y tt)
    go false y n = inr (n tt)

pub read-not-le : {a b : ℤ} → ¬ (a ≤ℤ b) → up b + dn a < up a + dn b
read-not-le {a} {b} f = ⊎_elim (λ h. absurd (f (prove_le h))) (λ h. h) (le-or-lt (up a + dn b) (up b + dn a))

pub read-not-lt : {a b : ℤ} → ¬ (a <ℤ b) → up b + dn a ≤ up a + dn b
read-not-lt {a} {b} f = ⊎_elim (λ h. h) (λ h. absurd (f (prove_lt h))) (le-or-lt (up b + dn a) (up a + dn b))

pub read-ne : {a b : ℤ} → a ≢ b → up a + dn b ≢ up b + dn a
read-ne f h = f (prove_eq h)

pub read-le-true : (a b : ℤ) → le_z a b ≡ true → up a + dn b ≤ up b + dn a
read-le-true a b e = le_cases a b (T_true e)

pub read-lt-true : (a b : ℤ) → lt_z a b ≡ true → up a + dn b < up b + dn a
read-lt-true a b e = lt_cases a b (T_true e)

pub read-lt-false : (a b : ℤ) → lt_z a b ≡ false → up b + dn a ≤ up a + dn b
read-lt-false a b e = read-not-lt (λ (h : a <ℤ b). T_not (lt_z a b) (T_false e) h.lt)

pub read-le-false : (a b : ℤ) → le_z a b ≡ false → up b + dn a < up a + dn b
read-le-false a b e = read-not-le (λ (h : a ≤ℤ b). T_not (le_z a b) (T_false e) h.le)

-- what `omega` is handed: `omega order`, or `omega (order, sum a b, read-not-le h)`
pub ruleset order = (arith, read-le, read-lt, read-eq, read-le-true, read-lt-true, read-le-false, read-lt-false, prove_le, prove_lt, prove_eq)

-- ---- one fact to list for each operation
sub_nat : (a b : ℕ) → up (sub_ℕ a b) + b ≡ a + dn (sub_ℕ a b)
sub_nat a b = go (ltb a b) (ltb→lt a b) (nltb→le a b)
  where
    go : (t : Bool) → (T t → a < b) → (T (not t) → b ≤ a) → up (cond t (negsuc (b - suc a)) (pos (a - b))) + b ≡ a + dn (cond t (negsuc (b - suc a)) (pos (a - b)))
    go true y n = omega (arith, y tt)
    go false y n = omega (arith, n tt)

pub sum : (a b : ℤ) → up (a +ℤ b) + (dn a + dn b) ≡ up a + up b + dn (a +ℤ b)
sum (pos a) (pos b) = omega arith
sum (pos a) (negsuc b) = omega (arith, sub_nat a (suc b))
sum (negsuc a) (pos b) = omega (arith, sub_nat b (suc a))
sum (negsuc a) (negsuc b) = omega arith

pub negation : (a : ℤ) → (up (neg_ℤ a) ≡ dn a) × (dn (neg_ℤ a) ≡ up a)
negation (pos zero) = (refl, refl)
negation (pos (suc n)) = (refl, refl)
negation (negsuc n) = (refl, refl)

pub difference : (a b : ℤ) → up (a -ℤ b) + (dn a + up b) ≡ up a + dn b + dn (a -ℤ b)
difference a b = omega (arith, sum a (neg_ℤ b), negation b)

-- a number's multiple: `multiple 3 a`
pub multiple : (n : ℕ) (a : ℤ) → up (pos n *ℤ a) + n * dn a ≡ n * up a + dn (pos n *ℤ a)
multiple n (pos m) = omega arith
multiple n (negsuc m) = omega (arith, negation (pos (n * suc m)))

-- ---- examples
chain : (a b c d : ℤ) → a ≤ℤ b → b <ℤ c → c ≤ℤ d → a <ℤ d
chain a b c d p q r = omega order

turned : (a b c : ℤ) → a <ℤ b → b ≤ℤ c → ¬ (c ≤ℤ a)
turned a b c p q = omega order

both : (a b c : ℤ) → a ≤ℤ b → b ≡ c → c ≤ℤ a → a ≡ c
both a b c p q r = omega order

moved : (a b c : ℤ) → a ≤ℤ (b -ℤ c) → (a +ℤ c) ≤ℤ b
moved a b c h = omega (order, sum a c, difference b c)

numbers : (a : ℤ) → pos 3 ≤ℤ a → negsuc 4 <ℤ a
numbers a h = omega order

denied : (a b : ℤ) → ¬ (a <ℤ b) → a ≢ b → b <ℤ a
denied a b p q = omega (order, read-not-lt p, read-ne q)

tested : (a b c : ℤ) → lt_z a b ≡ false → le_z a c ≡ true → le_z c b ≡ false → ¬ (c ≡ b)
tested a b c p q r = omega order

listed : (a b : ℤ) → (a +ℤ b) ≤ℤ b → a ≤ℤ pos 0
listed a b h = omega (order, sum a b, ≤ℤ_refl b)

halved : (a b : ℤ) → (pos 2 *ℤ a) <ℤ (pos 2 *ℤ b +ℤ pos 1) → a ≤ℤ b
halved a b h = omega (order, multiple 2 a, multiple 2 b, sum (pos 2 *ℤ b) (pos 1))
