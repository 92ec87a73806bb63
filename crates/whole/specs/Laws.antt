-- The integers as an ordered commutative ring: the laws of the product that the logic's library lacks, the laws of the
-- two orders, and what the Boolean tests of order and equality mean. Assumes nothing.
use Rattle.std.specs.Prelude.{◌≡◌, refl, ◌≢◌, ◌⊎◌, Bool, true, false, not, ◌&&◌, zero, suc, ◌*◌, T, ℤ, pos, negsuc, neg_ℤ, ◌+ℤ◌, ◌-ℤ◌, ◌*ℤ◌, ◌≤ℤ◌, ◌<ℤ◌}
use Rattle.std.proofs.Common.{sym, ap, ◌∙◌, subst, inl, inr, ⊎_elim, zero-le, mul-pos, T_not, le→leb, lt→ltb, ltb→lt}
use Rattle.std.proofs.Math.IntN.{suc_ℤ, pred_ℤ, suc_ℤ-+ℤ, pred_ℤ-+ℤ, suc_ℤ-*ℤ, pred_ℤ-*ℤ, +ℤ_assoc, +ℤ_comm, +ℤ_idl, +ℤ_invl, +ℤ-neg_ℤ_cancel, zero-*ℤ, *ℤ_comm}
use Rattle.std.specs.Int.Signed.{lt_z, le_z, lt_z_yes, le_z_yes, lt_z_no, ≤ℤ_refl}
use Rattle.whole.specs.Linear.{order, sum, difference, negation}

-- ---- the ring
-- the middle two of three summands change places
swap_last : (a b c : ℤ) → a +ℤ b +ℤ c ≡ a +ℤ c +ℤ b
swap_last a b c = +ℤ_assoc a b c ∙ ap (λ (x : ℤ). a +ℤ x) (+ℤ_comm b c) ∙ sym (+ℤ_assoc a c b)

-- every integer is reached from 0 by steps up and down
steps : (P : ℤ → Type 0) → P (pos 0) → ((a : ℤ) → P a → P (suc_ℤ a)) → ((a : ℤ) → P a → P (pred_ℤ a)) → (a : ℤ) → P a
steps P z s p (pos zero) = z
steps P z s p (pos (suc n)) = s (pos n) (steps P z s p (pos n))
steps P z s p (negsuc zero) = p (pos 0) z
steps P z s p (negsuc (suc n)) = p (negsuc n) (steps P z s p (negsuc n))

pub +ℤ-*ℤ : (a b c : ℤ) → (a +ℤ b) *ℤ c ≡ a *ℤ c +ℤ b *ℤ c
+ℤ-*ℤ a b c = steps (λ (a : ℤ). (a +ℤ b) *ℤ c ≡ a *ℤ c +ℤ b *ℤ c) start (λ a h. step-up a h) (λ a h. step_down a h) a
  where
    start : (pos 0 +ℤ b) *ℤ c ≡ pos 0 *ℤ c +ℤ b *ℤ c
    start = ap (λ (x : ℤ). x *ℤ c) (+ℤ_idl b) ∙ sym (+ℤ_idl (b *ℤ c)) ∙ ap (λ (x : ℤ). x +ℤ b *ℤ c) (sym (zero-*ℤ c))

    step-up : (a : ℤ) → (a +ℤ b) *ℤ c ≡ a *ℤ c +ℤ b *ℤ c → (suc_ℤ a +ℤ b) *ℤ c ≡ suc_ℤ a *ℤ c +ℤ b *ℤ c
    step-up a h = ap (λ (x : ℤ). x *ℤ c) (suc_ℤ-+ℤ a b) ∙ suc_ℤ-*ℤ (a +ℤ b) c ∙ ap (λ (x : ℤ). x +ℤ c) h ∙ swap_last (a *ℤ c) (b *ℤ c) c ∙ ap (λ (x : ℤ). x +ℤ b *ℤ c) (sym (suc_ℤ-*ℤ a c))

    step_down : (a : ℤ) → (a +ℤ b) *ℤ c ≡ a *ℤ c +ℤ b *ℤ c → (pred_ℤ a +ℤ b) *ℤ c ≡ pred_ℤ a *ℤ c +ℤ b *ℤ c
    step_down a h = ap (λ (x : ℤ). x *ℤ c) (pred_ℤ-+ℤ a b) ∙ pred_ℤ-*ℤ (a +ℤ b) c ∙ ap (λ (x : ℤ). x -ℤ c) h ∙ swap_last (a *ℤ c) (b *ℤ c) (neg_ℤ c) ∙ ap (λ (x : ℤ). x +ℤ b *ℤ c) (sym (pred_ℤ-*ℤ a c))

pub *ℤ-+ℤ : (a b c : ℤ) → a *ℤ (b +ℤ c) ≡ a *ℤ b +ℤ a *ℤ c
*ℤ-+ℤ a b c = *ℤ_comm a (b +ℤ c) ∙ +ℤ-*ℤ b c a ∙ ap (λ (x : ℤ). x +ℤ c *ℤ a) (*ℤ_comm b a) ∙ ap (λ (x : ℤ). a *ℤ b +ℤ x) (*ℤ_comm c a)

pub +ℤ_cancel : (a b c : ℤ) → a +ℤ c ≡ b +ℤ c → a ≡ b
+ℤ_cancel a b c e = sym (+ℤ-neg_ℤ_cancel a c) ∙ ap (λ (x : ℤ). x -ℤ c) e ∙ +ℤ-neg_ℤ_cancel b c

pub negℤ-*ℤ : (a b : ℤ) → neg_ℤ a *ℤ b ≡ neg_ℤ (a *ℤ b)
negℤ-*ℤ a b = +ℤ_cancel (neg_ℤ a *ℤ b) (neg_ℤ (a *ℤ b)) (a *ℤ b) (sym (+ℤ-*ℤ (neg_ℤ a) a b) ∙ ap (λ (x : ℤ). x *ℤ b) (+ℤ_invl a) ∙ zero-*ℤ b ∙ sym (+ℤ_invl (a *ℤ b)))

pub *ℤ_negℤ : (a b : ℤ) → a *ℤ neg_ℤ b ≡ neg_ℤ (a *ℤ b)
*ℤ_negℤ a b = *ℤ_comm a (neg_ℤ b) ∙ negℤ-*ℤ b a ∙ ap neg_ℤ (*ℤ_comm b a)

pub *ℤ_assoc : (a b c : ℤ) → a *ℤ b *ℤ c ≡ a *ℤ (b *ℤ c)
*ℤ_assoc a b c = steps (λ (a : ℤ). a *ℤ b *ℤ c ≡ a *ℤ (b *ℤ c)) start (λ a h. step-up a h) (λ a h. step_down a h) a
  where
    start : pos 0 *ℤ b *ℤ c ≡ pos 0 *ℤ (b *ℤ c)
    start = ap (λ (x : ℤ). x *ℤ c) (zero-*ℤ b) ∙ zero-*ℤ c ∙ sym (zero-*ℤ (b *ℤ c))

    step-up : (a : ℤ) → a *ℤ b *ℤ c ≡ a *ℤ (b *ℤ c) → suc_ℤ a *ℤ b *ℤ c ≡ suc_ℤ a *ℤ (b *ℤ c)
    step-up a h = ap (λ (x : ℤ). x *ℤ c) (suc_ℤ-*ℤ a b) ∙ +ℤ-*ℤ (a *ℤ b) b c ∙ ap (λ (x : ℤ). x +ℤ b *ℤ c) h ∙ sym (suc_ℤ-*ℤ a (b *ℤ c))

    step_down : (a : ℤ) → a *ℤ b *ℤ c ≡ a *ℤ (b *ℤ c) → pred_ℤ a *ℤ b *ℤ c ≡ pred_ℤ a *ℤ (b *ℤ c)
    step_down a h = ap (λ (x : ℤ). x *ℤ c) (pred_ℤ-*ℤ a b) ∙ +ℤ-*ℤ (a *ℤ b) (neg_ℤ b) c ∙ ap (λ (x : ℤ). a *ℤ b *ℤ c +ℤ x) (negℤ-*ℤ b c) ∙ ap (λ (x : ℤ). x -ℤ b *ℤ c) h ∙ sym (pred_ℤ-*ℤ a (b *ℤ c))

pub *ℤ_idl : (a : ℤ) → pos 1 *ℤ a ≡ a
*ℤ_idl a = suc_ℤ-*ℤ (pos 0) a ∙ ap (λ (x : ℤ). x +ℤ a) (zero-*ℤ a) ∙ +ℤ_idl a

pub *ℤ_idr : (a : ℤ) → a *ℤ pos 1 ≡ a
*ℤ_idr a = *ℤ_comm a (pos 1) ∙ *ℤ_idl a

-- the second and the third of four factors, or of four summands, change places
pub *ℤ_swap : (a b c d : ℤ) → a *ℤ b *ℤ (c *ℤ d) ≡ a *ℤ c *ℤ (b *ℤ d)
*ℤ_swap a b c d = *ℤ_assoc a b (c *ℤ d) ∙ ap (λ (x : ℤ). a *ℤ x) (sym (*ℤ_assoc b c d) ∙ ap (λ (x : ℤ). x *ℤ d) (*ℤ_comm b c) ∙ *ℤ_assoc c b d) ∙ sym (*ℤ_assoc a c (b *ℤ d))

pub +ℤ_swap : (a b c d : ℤ) → a +ℤ b +ℤ (c +ℤ d) ≡ a +ℤ c +ℤ (b +ℤ d)
+ℤ_swap a b c d = +ℤ_assoc a b (c +ℤ d) ∙ ap (λ (x : ℤ). a +ℤ x) (sym (+ℤ_assoc b c d) ∙ ap (λ (x : ℤ). x +ℤ d) (+ℤ_comm b c) ∙ +ℤ_assoc c b d) ∙ sym (+ℤ_assoc a c (b +ℤ d))

-- ---- the orders
pub ≤ℤ_of-≡ : {a b : ℤ} → a ≡ b → a ≤ℤ b
≤ℤ_of-≡ e = omega order

pub ≤ℤ_trans : {a b c : ℤ} → a ≤ℤ b → b ≤ℤ c → a ≤ℤ c
≤ℤ_trans p q = omega order

pub ≤ℤ-<ℤ_trans : {a b c : ℤ} → a ≤ℤ b → b <ℤ c → a <ℤ c
≤ℤ-<ℤ_trans p q = omega order

pub <ℤ_trans : {a b c : ℤ} → a <ℤ b → b <ℤ c → a <ℤ c
<ℤ_trans p q = omega order

pub <ℤ→≤ℤ : {a b : ℤ} → a <ℤ b → a ≤ℤ b
<ℤ→≤ℤ p = omega order

pub ≤ℤ_antisym : {a b : ℤ} → a ≤ℤ b → b ≤ℤ a → a ≡ b
≤ℤ_antisym p q = omega order

pub <ℤ→≢ : {a b : ℤ} → a <ℤ b → a ≢ b
<ℤ→≢ p = omega order

pub ≤ℤ_total : (a b : ℤ) → (a ≤ℤ b) ⊎ (b <ℤ a)
≤ℤ_total a b = go (lt_z b a) lt_z_yes lt_z_no
  where
    go : (t : Bool) → (T t → b <ℤ a) → (T (not t) → a ≤ℤ b) → (a ≤ℤ b) ⊎ (b <ℤ a)
    go true y n = inr (y tt)
    go false y n = inl (n tt)

-- a ≤ b is a < b or a ≡ b
pub ≤ℤ_split : {a b : ℤ} → a ≤ℤ b → (a <ℤ b) ⊎ (a ≡ b)
≤ℤ_split {a} {b} h = ⊎_elim (λ g. inr (≤ℤ_antisym h g)) inl (≤ℤ_total b a)

pub ℤ_trichotomy : (a b : ℤ) → (a <ℤ b) ⊎ ((a ≡ b) ⊎ (b <ℤ a))
ℤ_trichotomy a b = ⊎_elim (λ h. ⊎_elim inl (λ e. inr (inl e)) (≤ℤ_split h)) (λ h. inr (inr h)) (≤ℤ_total a b)

pub ≢→<ℤ : (a b : ℤ) → a ≢ b → (a <ℤ b) ⊎ (b <ℤ a)
≢→<ℤ a b f = ⊎_elim inl (λ d. ⊎_elim (λ e. absurd (f e)) inr d) (ℤ_trichotomy a b)

-- sums
pub +ℤ_mono : {a b c d : ℤ} → a ≤ℤ b → c ≤ℤ d → (a +ℤ c) ≤ℤ (b +ℤ d)
+ℤ_mono {a} {b} {c} {d} p q = omega (order, sum a c, sum b d)

pub +ℤ_mono-<ℤ : {a b c d : ℤ} → a <ℤ b → c ≤ℤ d → (a +ℤ c) <ℤ (b +ℤ d)
+ℤ_mono-<ℤ {a} {b} {c} {d} p q = omega (order, sum a c, sum b d)

-- differences
pub ≤ℤ→0≤ : {a b : ℤ} → a ≤ℤ b → pos 0 ≤ℤ (b -ℤ a)
≤ℤ→0≤ {a} {b} p = omega (order, difference b a)

pub 0≤→≤ℤ : (a b : ℤ) → pos 0 ≤ℤ (b -ℤ a) → a ≤ℤ b
0≤→≤ℤ a b p = omega (order, difference b a)

pub <ℤ→0< : {a b : ℤ} → a <ℤ b → pos 0 <ℤ (b -ℤ a)
<ℤ→0< {a} {b} p = omega (order, difference b a)

pub 0<→<ℤ : (a b : ℤ) → pos 0 <ℤ (b -ℤ a) → a <ℤ b
0<→<ℤ a b p = omega (order, difference b a)

pub ≡→0≡ : {a b : ℤ} → a ≡ b → b -ℤ a ≡ pos 0
≡→0≡ {a} {b} p = omega (order, difference b a)

pub 0≡→≡ : (a b : ℤ) → b -ℤ a ≡ pos 0 → a ≡ b
0≡→≡ a b p = omega (order, difference b a)

-- negation reverses
pub negℤ-≤ℤ : {a b : ℤ} → a ≤ℤ b → neg_ℤ b ≤ℤ neg_ℤ a
negℤ-≤ℤ {a} {b} p = omega (order, negation a, negation b)

pub negℤ-<ℤ : {a b : ℤ} → a <ℤ b → neg_ℤ b <ℤ neg_ℤ a
negℤ-<ℤ {a} {b} p = omega (order, negation a, negation b)

-- a ≤ b is a < b + 1
pub ≤ℤ→<ℤ+1 : {a b : ℤ} → a ≤ℤ b → a <ℤ (b +ℤ pos 1)
≤ℤ→<ℤ+1 {a} {b} p = omega (order, sum b (pos 1))

pub <ℤ+1→≤ℤ : (a b : ℤ) → a <ℤ (b +ℤ pos 1) → a ≤ℤ b
<ℤ+1→≤ℤ a b p = omega (order, sum b (pos 1))

-- products
pub 0≤-*ℤ : {a b : ℤ} → pos 0 ≤ℤ a → pos 0 ≤ℤ b → pos 0 ≤ℤ (a *ℤ b)
0≤-*ℤ {a = pos m} {b = pos n} p q = le_z_yes (le→leb 0 (m * n) zero-le)
0≤-*ℤ {a = pos m} {b = negsuc n} p q = absurd q.le
0≤-*ℤ {a = negsuc m} {b} p q = absurd p.le

pub 0<-*ℤ : {a b : ℤ} → pos 0 <ℤ a → pos 0 <ℤ b → pos 0 <ℤ (a *ℤ b)
0<-*ℤ {a = pos m} {b = pos n} p q = lt_z_yes (lt→ltb 0 (m * n) (mul-pos (ltb→lt 0 m p.lt) (ltb→lt 0 n q.lt)))
0<-*ℤ {a = pos m} {b = negsuc n} p q = absurd q.lt
0<-*ℤ {a = negsuc m} {b} p q = absurd p.lt

pub 0≤-square : (a : ℤ) → pos 0 ≤ℤ (a *ℤ a)
0≤-square (pos m) = le_z_yes (le→leb 0 (m * m) zero-le)
0≤-square (negsuc m) = le_z_yes (le→leb 0 (suc m * suc m) zero-le)

-- a positive factor is cancelled
pub cancel_0≤ : (c g : ℤ) → pos 0 <ℤ c → pos 0 ≤ℤ (c *ℤ g) → pos 0 ≤ℤ g
cancel_0≤ c g p q = ⊎_elim (λ h. h) (λ h. absurd (no h)) (≤ℤ_total (pos 0) g)
  where
    no : g <ℤ pos 0 → ⊥
    no h = let f : pos 0 <ℤ neg_ℤ g = negℤ-<ℤ h in
        let k : pos 0 <ℤ neg_ℤ (c *ℤ g) = subst (λ (x : ℤ). pos 0 <ℤ x) (*ℤ_negℤ c g) (0<-*ℤ p f) in
        omega (order, negation (c *ℤ g))

pub cancel_0< : (c g : ℤ) → pos 0 <ℤ c → pos 0 <ℤ (c *ℤ g) → pos 0 <ℤ g
cancel_0< c g p q = ⊎_elim (λ h. absurd (no h)) (λ h. h) (≤ℤ_total g (pos 0))
  where
    no : g ≤ℤ pos 0 → ⊥
    no h = let f : pos 0 ≤ℤ neg_ℤ g = negℤ-≤ℤ h in
        let k : pos 0 ≤ℤ neg_ℤ (c *ℤ g) = subst (λ (x : ℤ). pos 0 ≤ℤ x) (*ℤ_negℤ c g) (0≤-*ℤ (<ℤ→≤ℤ p) f) in
        omega (order, negation (c *ℤ g))

pub cancel-≡0 : (c g : ℤ) → pos 0 <ℤ c → c *ℤ g ≡ pos 0 → g ≡ pos 0
cancel-≡0 c g p e =
    let l : pos 0 ≤ℤ g = cancel_0≤ c g p (≤ℤ_of-≡ (sym e)) in
    let r : pos 0 ≤ℤ neg_ℤ g = cancel_0≤ c (neg_ℤ g) p (≤ℤ_of-≡ (sym (*ℤ_negℤ c g ∙ ap neg_ℤ e))) in
    omega (order, negation g)

-- a product is 0 only if a factor is
pub *ℤ-≡0 : (a b : ℤ) → a *ℤ b ≡ pos 0 → (a ≡ pos 0) ⊎ (b ≡ pos 0)
*ℤ-≡0 a b e = ⊎_elim (λ h. inr (cancel-≡0 (neg_ℤ a) b (negℤ-<ℤ h) (negℤ-*ℤ a b ∙ ap neg_ℤ e))) (λ d. ⊎_elim inl (λ h. inr (cancel-≡0 a b h e)) d) (ℤ_trichotomy a (pos 0))

-- ---- the tests: what an answer says (`test-`), and the answer that a fact gives (`-test`)
pub leZ_no : {a b : ℤ} → T (not (le_z a b)) → b <ℤ a
leZ_no {a} {b} t = ⊎_elim (λ (h : a ≤ℤ b). absurd (T_not (le_z a b) t h.le)) (λ h. h) (≤ℤ_total a b)

pub test-le : (a b : ℤ) → le_z a b ≡ true → a ≤ℤ b
test-le a b e = omega order

pub test_nle : (a b : ℤ) → le_z a b ≡ false → b <ℤ a
test_nle a b e = omega order

pub test-lt : (a b : ℤ) → lt_z a b ≡ true → a <ℤ b
test-lt a b e = omega order

pub test_nlt : (a b : ℤ) → lt_z a b ≡ false → b ≤ℤ a
test_nlt a b e = omega order

pub is_true : (t : Bool) → T t → t ≡ true
is_true true p = refl
is_true false p = absurd p

pub is_false : (t : Bool) → (T t → ⊥) → t ≡ false
is_false true f = absurd (f tt)
is_false false f = refl

pub le_test : {a b : ℤ} → a ≤ℤ b → le_z a b ≡ true
le_test {a} {b} h = is_true (le_z a b) h.le

pub nle_test : {a b : ℤ} → b <ℤ a → le_z a b ≡ false
nle_test {a} {b} h = is_false (le_z a b) (λ t. let g : a ≤ℤ b = le_z_yes t in omega order)

pub lt_test : {a b : ℤ} → a <ℤ b → lt_z a b ≡ true
lt_test {a} {b} h = is_true (lt_z a b) h.lt

pub nlt_test : {a b : ℤ} → b ≤ℤ a → lt_z a b ≡ false
nlt_test {a} {b} h = is_false (lt_z a b) (λ t. let g : a <ℤ b = lt_z_yes t in omega order)

pub le_z_not_lt_z : (a b : ℤ) → le_z a b ≡ not (lt_z b a)
le_z_not_lt_z a b = ⊎_elim (λ h. le_test h ∙ sym (ap not (nlt_test h))) (λ h. nle_test h ∙ sym (ap not (lt_test h))) (≤ℤ_total a b)

-- equality as a test: neither is beyond the other
abbrev pub eqZ : ℤ → ℤ → Bool
eqZ a b = le_z a b && le_z b a

both_hold : (s t : Bool) → T (s && t) → T s × T t
both_hold true t p = (tt, p)
both_hold false t p = absurd p

pub eqZ_yes : (a b : ℤ) → T (eqZ a b) → a ≡ b
eqZ_yes a b t = let h = both_hold (le_z a b) (le_z b a) t in ≤ℤ_antisym (le_z_yes h.0) (le_z_yes h.1)

pub eqZ_refl : (a : ℤ) → T (eqZ a a)
eqZ_refl a = subst (λ (t : Bool). T (t && t)) (sym (le_test (≤ℤ_refl a))) tt

pub eqZ_no : (a b : ℤ) → T (not (eqZ a b)) → a ≢ b
eqZ_no a b t e = T_not (eqZ a b) t (subst (λ (x : ℤ). T (eqZ a x)) e (eqZ_refl a))

pub eq_test : {a b : ℤ} → a ≡ b → eqZ a b ≡ true
eq_test {a} {b} e = is_true (eqZ a b) (subst (λ (x : ℤ). T (eqZ a x)) e (eqZ_refl a))

pub ne_test : {a b : ℤ} → a ≢ b → eqZ a b ≡ false
ne_test {a} {b} f = is_false (eqZ a b) (λ t. f (eqZ_yes a b t))

pub test-eq : (a b : ℤ) → eqZ a b ≡ true → a ≡ b
test-eq a b e = eqZ_yes a b (subst T (sym e) tt)

pub test-ne : (a b : ℤ) → eqZ a b ≡ false → a ≢ b
test-ne a b e = eqZ_no a b (subst (λ (t : Bool). T (not t)) (sym e) tt)
