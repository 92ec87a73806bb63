-- The overflow needs of signed arithmetic: from bounds on the variables of an expression, that every step of it fits its width and that
-- the word holds the expression's value. The bound of an expression is computed. Assumes nothing.
use Rattle.std.specs.Prelude.{◌≡◌, refl, ◌≢◌, List, [], ◌∷◌, Bool, true, false, not, cond, ◌&&◌, ℕ, zero, suc, ◌+◌, ◌*◌, ◌-◌, ◌^◌, ◌≤◌, ◌<◌, T, ltb, eqb, get_or, ℤ, pos, negsuc, neg_ℤ, nat_abs, ◌+ℤ◌, ◌-ℤ◌, ◌*ℤ◌, ◌≤ℤ◌}
use Rattle.std.proofs.Common.{sym, ap, ap₂, ◌∙◌, subst, mul-le-mul, le_trans, le_of_eq, lt_of_le_of_lt, arith, ltb→lt, nltb→le, lit≤, eqb→eq}
use Rattle.std.proofs.Math.Dec.{eqb_refl}
use Rattle.std.proofs.Math.IntN.{sub_ℕ, +ℤ_idl}
use Rattle.std.specs.Int.Signed.{mag, lt_z, le_z, nat_abs-le}
use Rattle.std.specs.Int.{Width, w64}
use mir.Val.{SFits, to_z, of_z, hbits}
use Rattle.std.proofs.Math.Facts as F
use Rattle.whole.specs.Linear.{order, negation}
use Rattle.whole.specs.Laws.{is_true, is_false, eqZ, eqZ_yes, eqZ_no}
use Rattle.whole.specs.Solver.{Ex, var, num, ◌⊕◌, ◌⊖◌, ◌⊗◌, ⊝◌, eval}

-- ---- bounds. z and the bound are inferred from a proof
pub record Within (z : ℤ) (B : ℕ) : Type 0 where
  pub within : nat_abs z ≤ B

-- a number s that a word was read as, which is z, within a bound
pub record Held (s z : ℤ) (B : ℕ) : Type 0 where
  pub same : s ≡ z
  pub near : Within z B

-- the variables of an expression: what each is read as, its number and its bound. `h ∷ʷ ..` where it is read as it is, `h ∷ᶜ ..` after a cast
infixr 5 ◌∷ʷ◌ ◌∷ᶜ◌
pub data Leaves : List ℤ → List ℤ → List ℕ → Type 0 where
  []ʷ : Leaves [] [] []
  ◌∷ʷ◌ : {z : ℤ} {B : ℕ} {σ ρ : List ℤ} {βs : List ℕ} → Within z B → Leaves σ ρ βs → Leaves (z ∷ σ) (z ∷ ρ) (B ∷ βs)
  ◌∷ᶜ◌ : {s z : ℤ} {B : ℕ} {σ ρ : List ℤ} {βs : List ℕ} → Held s z B → Leaves σ ρ βs → Leaves (s ∷ σ) (z ∷ ρ) (B ∷ βs)

-- where nothing is cast
abbrev pub Bounded : List ℤ → List ℕ → Type 0
Bounded ρ βs = Leaves ρ ρ βs

-- ways in: from two orders, from the number of bits, from another number or a lower bound
pub within-≤ : {z : ℤ} {B : ℕ} → neg_ℤ (pos B) ≤ℤ z → z ≤ℤ pos B → Within z B
within-≤ {z} {B} p q = record { within = go z p q }
  where
    go : (z : ℤ) → neg_ℤ (pos B) ≤ℤ z → z ≤ℤ pos B → nat_abs z ≤ B
    go (pos n) p q = omega order
    go (negsuc n) p q = omega (order, negation (pos B))

pub within_mag : (z : ℤ) {B : ℕ} → mag z < B → Within z B
within_mag z h = record { within = nat_abs-le z h }

pub within-≡ : {y z : ℤ} {B : ℕ} → y ≡ z → Within z B → Within y B
within-≡ {B} e h = record { within = subst (λ (x : ℤ). nat_abs x ≤ B) (sym e) h.within }

pub within_more : {z : ℤ} {B C : ℕ} → Within z B → B ≤ C → Within z C
within_more h g = record { within = le_trans h.within g }

pub within-number : (z : ℤ) → Within z (nat_abs z)
within-number z = record { within = le_of_eq refl }

-- and out
pub at_most : {z : ℤ} {B : ℕ} → Within z B → z ≤ℤ pos B
at_most {z = pos n} h = let g = h.within in omega order
at_most {z = negsuc n} h = omega order

pub at_least : {z : ℤ} {B : ℕ} → Within z B → neg_ℤ (pos B) ≤ℤ z
at_least {z = pos n} {B} h = omega (order, negation (pos B))
at_least {z = negsuc n} {B} h = let g = h.within in omega (order, negation (pos B))

-- what a width holds, and a number that was cast from it: `cast f`, or with a bound of its own, `cast_within f h`
pub within_width : {w : Width} {z : ℤ} → SFits w z → Within z (2 ^ hbits w)
within_width {z} f = within_mag z f.sfits

pub cast_within : {w : Width} {z : ℤ} {B : ℕ} → SFits w z → Within z B → Held (to_z w (of_z w z)) z B
cast_within f h = record { same = F.to_z-of_z f; near = h }

pub cast : {w : Width} {z : ℤ} → SFits w z → Held (to_z w (of_z w z)) z (2 ^ hbits w)
cast f = cast_within f (within_width f)

-- after a read of a slice, which says no more than that its number fits: `cast_read w32 z h`
pub cast_read : (w : Width) (z : ℤ) → mag z < 2 ^ hbits w → Held (to_z w (of_z w z)) z (2 ^ hbits w)
cast_read w z h = cast (record { sfits = h })

abs_neg : (a : ℤ) → nat_abs (neg_ℤ a) ≡ nat_abs a
abs_neg (pos zero) = refl
abs_neg (pos (suc n)) = refl
abs_neg (negsuc n) = refl

abs-sub : (a b : ℕ) → nat_abs (sub_ℕ a b) ≤ a + b
abs-sub a b = go (ltb a b) (ltb→lt a b) (nltb→le a b)
  where
    go : (t : Bool) → (T t → a < b) → (T (not t) → b ≤ a) → nat_abs (cond t (negsuc (b - suc a)) (pos (a - b))) ≤ a + b
    go true y n = omega (arith, y tt)
    go false y n = omega (arith, n tt)

pub abs-+ℤ : (a b : ℤ) → nat_abs (a +ℤ b) ≤ nat_abs a + nat_abs b
abs-+ℤ (pos a) (pos b) = omega arith
abs-+ℤ (pos a) (negsuc b) = abs-sub a (suc b)
abs-+ℤ (negsuc a) (pos b) = omega (arith, abs-sub b (suc a))
abs-+ℤ (negsuc a) (negsuc b) = omega arith

pub abs-*ℤ : (a b : ℤ) → nat_abs (a *ℤ b) ≡ nat_abs a * nat_abs b
abs-*ℤ (pos a) (pos b) = refl
abs-*ℤ (pos a) (negsuc b) = abs_neg (pos (a * suc b))
abs-*ℤ (negsuc a) (pos b) = abs_neg (pos (suc a * b))
abs-*ℤ (negsuc a) (negsuc b) = refl

-- ---- the bound of an expression, and whether each step of it is below half of what the width holds
abbrev pub bound : List ℕ → Ex → ℕ
bound βs (var i) = get_or βs i 0
bound βs (num c) = nat_abs c
bound βs (a ⊕ b) = bound βs a + bound βs b
bound βs (a ⊖ b) = bound βs a + bound βs b
bound βs (a ⊗ b) = bound βs a * bound βs b
bound βs (⊝ a) = bound βs a

abbrev pub below : Width → ℕ → Bool
below w n = ltb n (2 ^ hbits w)

abbrev pub safe : Width → List ℕ → Ex → Bool
safe w βs (var i) = below w (get_or βs i 0)
safe w βs (num c) = below w (nat_abs c)
safe w βs (a ⊕ b) = below w (bound βs a + bound βs b) && (safe w βs a && safe w βs b)
safe w βs (a ⊖ b) = below w (bound βs a + bound βs b) && (safe w βs a && safe w βs b)
safe w βs (a ⊗ b) = below w (bound βs a * bound βs b) && (safe w βs a && safe w βs b)
safe w βs (⊝ a) = safe w βs a

-- what the machine computes: each step's number is written to a word, and read back. A negation is computed as 0 less the number
abbrev pub step : Width → List ℤ → Ex → ℤ
step w σ (var i) = get_or σ i (pos 0)
step w σ (num c) = c
step w σ (a ⊕ b) = to_z w (of_z w (step w σ a)) +ℤ to_z w (of_z w (step w σ b))
step w σ (a ⊖ b) = to_z w (of_z w (step w σ a)) -ℤ to_z w (of_z w (step w σ b))
step w σ (a ⊗ b) = to_z w (of_z w (step w σ a)) *ℤ to_z w (of_z w (step w σ b))
step w σ (⊝ a) = pos 0 -ℤ to_z w (of_z w (step w σ a))

abbrev pub word : Width → List ℤ → Ex → ℤ
word w σ e = to_z w (of_z w (step w σ e))

-- the words that a call is given, and their values
abbrev pub words : Width → List ℤ → List Ex → List ℤ
words w σ [] = []
words w σ (e ∷ es) = word w σ e ∷ words w σ es

abbrev pub values : List ℤ → List Ex → List ℤ
values ρ [] = []
values ρ (e ∷ es) = eval ρ e ∷ values ρ es

abbrev pub all_safe : Width → List ℕ → List Ex → Bool
all_safe w βs [] = true
all_safe w βs (e ∷ es) = safe w βs e && all_safe w βs es

-- ---- the laws
leaf_within : {σ ρ : List ℤ} {βs : List ℕ} → Leaves σ ρ βs → (i : ℕ) → nat_abs (get_or ρ i (pos 0)) ≤ get_or βs i 0
leaf_within []ʷ i = lit≤ tt
leaf_within (h ∷ʷ hs) zero = h.within
leaf_within (h ∷ʷ hs) (suc i) = leaf_within hs i
leaf_within (h ∷ᶜ hs) zero = h.near.within
leaf_within (h ∷ᶜ hs) (suc i) = leaf_within hs i

leaf_is : {σ ρ : List ℤ} {βs : List ℕ} → Leaves σ ρ βs → (i : ℕ) → get_or σ i (pos 0) ≡ get_or ρ i (pos 0)
leaf_is []ʷ i = refl
leaf_is (h ∷ʷ hs) zero = refl
leaf_is (h ∷ʷ hs) (suc i) = leaf_is hs i
leaf_is (h ∷ᶜ hs) zero = h.same
leaf_is (h ∷ᶜ hs) (suc i) = leaf_is hs i

value-below : {σ ρ : List ℤ} {βs : List ℕ} → Leaves σ ρ βs → (e : Ex) → nat_abs (eval ρ e) ≤ bound βs e
value-below l (var i) = leaf_within l i
value-below l (num c) = omega arith
value-below {ρ} l (a ⊕ b) = omega (arith, abs-+ℤ (eval ρ a) (eval ρ b), value-below l a, value-below l b)
value-below {ρ} l (a ⊖ b) = omega (arith, abs-+ℤ (eval ρ a) (neg_ℤ (eval ρ b)), abs_neg (eval ρ b), value-below l a, value-below l b)
value-below {ρ} l (a ⊗ b) = le_trans (le_of_eq (abs-*ℤ (eval ρ a) (eval ρ b))) (mul-le-mul (value-below l a) (value-below l b))
value-below {ρ} l (⊝ a) = omega (arith, abs_neg (eval ρ a), value-below l a)

-- the value is within the bound
pub value-within : {σ ρ : List ℤ} {βs : List ℕ} → Leaves σ ρ βs → (e : Ex) → Within (eval ρ e) (bound βs e)
value-within l e = record { within = value-below l e }

mag_abs : (z : ℤ) → mag z ≤ nat_abs z
mag_abs (pos n) = omega arith
mag_abs (negsuc n) = omega arith

and_left : (s t : Bool) → T (s && t) → T s
and_left true t p = tt
and_left false t p = p

and_right : (s t : Bool) → T (s && t) → T t
and_right true t p = p
and_right false t p = absurd p

-- what the word of a number is read as: the number, within a bound that the width holds
abbrev pub read : Width → ℤ → ℤ
read w z = to_z w (of_z w z)

module _ (w : Width) {z : ℤ} {B : ℕ} (h : Within z B) (t : T (below w B)) where
  pub within-fits : SFits w z
  within-fits = record { sfits = lt_of_le_of_lt (le_trans (mag_abs z) h.within) (ltb→lt B (2 ^ hbits w) t) }

  pub read-within : Held (read w z) z B
  read-within = cast_within within-fits h

module _ (w : Width) {σ ρ : List ℤ} {βs : List ℕ} (l : Leaves σ ρ βs) where
  top : (e : Ex) → T (safe w βs e) → T (below w (bound βs e))
  top (var i) t = t
  top (num c) t = t
  top (a ⊕ b) t = and_left (below w (bound βs a + bound βs b)) (safe w βs a && safe w βs b) t
  top (a ⊖ b) t = and_left (below w (bound βs a + bound βs b)) (safe w βs a && safe w βs b) t
  top (a ⊗ b) t = and_left (below w (bound βs a * bound βs b)) (safe w βs a && safe w βs b) t
  top (⊝ a) t = top a t

  -- the expression's value fits
  pub value-fits : (e : Ex) → T (safe w βs e) → SFits w (eval ρ e)
  value-fits e t = record { sfits = lt_of_le_of_lt (le_trans (mag_abs (eval ρ e)) (value-below l e)) (ltb→lt (bound βs e) (2 ^ hbits w) (top e t)) }

  -- so what is read back is the value, if the step is
  back : (e : Ex) → T (safe w βs e) → step w σ e ≡ eval ρ e → word w σ e ≡ eval ρ e
  back e t q = ap (λ (z : ℤ). to_z w (of_z w z)) q ∙ F.to_z-of_z (value-fits e t)

  two-words : (f : ℤ → ℤ → ℤ) (x : Bool) (a b : Ex) → T (x && (safe w βs a && safe w βs b)) → (T (safe w βs a) → step w σ a ≡ eval ρ a) → (T (safe w βs b) → step w σ b ≡ eval ρ b) → f (word w σ a) (word w σ b) ≡ f (eval ρ a) (eval ρ b)
  two-words f x a b t p q = ap₂ f (back a ta (p ta)) (back b tb (q tb))
    where
      both : T (safe w βs a && safe w βs b)
      both = and_right x (safe w βs a && safe w βs b) t

      ta : T (safe w βs a)
      ta = and_left (safe w βs a) (safe w βs b) both

      tb : T (safe w βs b)
      tb = and_right (safe w βs a) (safe w βs b) both

  step_is : (e : Ex) → T (safe w βs e) → step w σ e ≡ eval ρ e
  step_is (var i) t = leaf_is l i
  step_is (num c) t = refl
  step_is (a ⊕ b) t = two-words ◌+ℤ◌ (below w (bound βs a + bound βs b)) a b t (λ s. step_is a s) (λ s. step_is b s)
  step_is (a ⊖ b) t = two-words ◌-ℤ◌ (below w (bound βs a + bound βs b)) a b t (λ s. step_is a s) (λ s. step_is b s)
  step_is (a ⊗ b) t = two-words ◌*ℤ◌ (below w (bound βs a * bound βs b)) a b t (λ s. step_is a s) (λ s. step_is b s)
  step_is (⊝ a) t = ap (λ (z : ℤ). pos 0 -ℤ z) (back a t (step_is a t)) ∙ +ℤ_idl (neg_ℤ (eval ρ a))

  -- THE LAW for a need: the last step of e fits. `step_fits w64 l e tt`
  pub step_fits : (e : Ex) → T (safe w βs e) → SFits w (step w σ e)
  step_fits e t = subst (SFits w) (sym (step_is e t)) (value-fits e t)

  -- THE LAW for a result: the word holds the value. `word-is w64 l e tt`
  pub word-is : (e : Ex) → T (safe w βs e) → word w σ e ≡ eval ρ e
  word-is e t = back e t (step_is e t)

  -- so the word is within the bound
  pub word-within : (e : Ex) → T (safe w βs e) → Within (word w σ e) (bound βs e)
  word-within e t = within-≡ (word-is e t) (value-within l e)

  -- what a call ensures is said of the words that it was given: `c.f.ensures ∙ ap (λ (ρ : List ℤ). eval ρ e) (words_are w64 l es tt)`
  pub words_are : (es : List Ex) → T (all_safe w βs es) → words w σ es ≡ values ρ es
  words_are [] t = refl
  words_are (e ∷ es) t = ap₂ ◌∷◌ (word-is e (and_left (safe w βs e) (all_safe w βs es) t)) (words_are es (and_right (safe w βs e) (all_safe w βs es) t))

  -- a comparison of two words compares the values
  pub lt-is : (a b : Ex) → T (safe w βs a) → T (safe w βs b) → lt_z (word w σ a) (word w σ b) ≡ lt_z (eval ρ a) (eval ρ b)
  lt-is a b s t = ap₂ lt_z (word-is a s) (word-is b t)

  pub le_is : (a b : Ex) → T (safe w βs a) → T (safe w βs b) → le_z (word w σ a) (word w σ b) ≡ le_z (eval ρ a) (eval ρ b)
  le_is a b s t = ap₂ le_z (word-is a s) (word-is b t)

  -- and so does an equality of their bits
  pub eq_is : (a b : Ex) → T (safe w βs a) → T (safe w βs b) → eqb (of_z w (step w σ a)) (of_z w (step w σ b)) ≡ eqZ (eval ρ a) (eval ρ b)
  eq_is a b s t = ap₂ (λ (x y : ℤ). eqb (of_z w x) (of_z w y)) (step_is a s) (step_is b t) ∙ go (eqZ (eval ρ a) (eval ρ b)) (eqZ_yes (eval ρ a) (eval ρ b)) (eqZ_no (eval ρ a) (eval ρ b))
    where
      go : (r : Bool) → (T r → eval ρ a ≡ eval ρ b) → (T (not r) → eval ρ a ≢ eval ρ b) → eqb (of_z w (eval ρ a)) (of_z w (eval ρ b)) ≡ r
      go true y n = is_true (eqb (of_z w (eval ρ a)) (of_z w (eval ρ b))) (subst (λ (z : ℤ). T (eqb (of_z w (eval ρ a)) (of_z w z))) (y tt) (eqb_refl (of_z w (eval ρ a))))
      go false y n = is_false (eqb (of_z w (eval ρ a)) (of_z w (eval ρ b))) (λ q. n tt (sym (F.to_z-of_z (value-fits a s)) ∙ ap (to_z w) (eqb→eq (of_z w (eval ρ a)) (of_z w (eval ρ b)) q) ∙ F.to_z-of_z (value-fits b t)))

-- ---- an example: x * y - 1 at 64 bits, from bounds on x and y. The last need that the code has, and the value that it returns
module _ (x y : ℤ) (hx : Within x 2000000) (hy : Within y 2000000) where
  less_one_fits : SFits w64 (to_z w64 (of_z w64 (to_z w64 (of_z w64 x) *ℤ to_z w64 (of_z w64 y))) -ℤ pos 1)
  less_one_fits = step_fits w64 (hx ∷ʷ hy ∷ʷ []ʷ) (var 0 ⊗ var 1 ⊖ num (pos 1)) tt

  less_one_is : to_z w64 (of_z w64 (to_z w64 (of_z w64 (to_z w64 (of_z w64 x) *ℤ to_z w64 (of_z w64 y))) -ℤ pos 1)) ≡ x *ℤ y -ℤ pos 1
  less_one_is = word-is w64 (hx ∷ʷ hy ∷ʷ []ʷ) (var 0 ⊗ var 1 ⊖ num (pos 1)) tt
