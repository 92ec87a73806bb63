-- Sign certificates: facts that an expression is 0, at least 0 or above 0 are combined by sums and products, and one computed
-- test says that the combination is the statement wanted, a positive factor apart where one is given. Assumes nothing.
use Rattle.std.specs.Prelude.{◌≡◌, refl, List, [], ◌∷◌, Bool, not, ℕ, T, ltb, ℤ, pos, ◌+ℤ◌, ◌-ℤ◌, ◌*ℤ◌, ◌≤ℤ◌, ◌<ℤ◌}
use Rattle.std.proofs.Common.{ap, ◌∙◌, subst}
use Rattle.std.proofs.Math.IntN.{zero-*ℤ, *ℤ-zero}
use Rattle.std.specs.Int.Signed.{le_z, lt_z, le_z_yes, lt_z_yes}
use Rattle.whole.specs.Linear.{order, sum, negation, difference}
use Rattle.whole.specs.Laws.{eqZ, eqZ_no, 0≤-*ℤ, 0<-*ℤ, 0≤-square, cancel_0≤, cancel_0<, cancel-≡0, <ℤ→≤ℤ}
use Rattle.whole.specs.Solver.{Ex, var, num, ◌⊕◌, ◌⊖◌, ◌⊗◌, ⊝◌, eval, norm, ring, east, tri}

-- ---- facts. ρ and e are inferred from a proof
pub data Sign : Type 0 where
  ≡0 : Sign
  ≥0 : Sign
  >0 : Sign

abbrev pub Says : Sign → ℤ → Type 0
Says ≡0 z = z ≡ pos 0
Says ≥0 z = pos 0 ≤ℤ z
Says >0 z = pos 0 <ℤ z

pub record Fact (s : Sign) (ρ : List ℤ) (e : Ex) : Type 0 where
  pub holds : Says s (eval ρ e)

abbrev pub Zero : List ℤ → Ex → Type 0
Zero ρ e = Fact ≡0 ρ e

abbrev pub NonNeg : List ℤ → Ex → Type 0
NonNeg ρ e = Fact ≥0 ρ e

abbrev pub Positive : List ℤ → Ex → Type 0
Positive ρ e = Fact >0 ρ e

-- ---- ways in
module _ (ρ : List ℤ) where
  -- from an order or an equation between two expressions
  pub from-≤ : (x y : Ex) → eval ρ x ≤ℤ eval ρ y → NonNeg ρ (y ⊖ x)
  from-≤ x y h = record { holds = omega (order, difference (eval ρ y) (eval ρ x)) }

  pub from-< : (x y : Ex) → eval ρ x <ℤ eval ρ y → Positive ρ (y ⊖ x)
  from-< x y h = record { holds = omega (order, difference (eval ρ y) (eval ρ x)) }

  pub from-≡ : (x y : Ex) → eval ρ x ≡ eval ρ y → Zero ρ (y ⊖ x)
  from-≡ x y h = record { holds = omega (order, difference (eval ρ y) (eval ρ x)) }

  -- from the sign of one expression
  pub from_0≤ : (x : Ex) → pos 0 ≤ℤ eval ρ x → NonNeg ρ x
  from_0≤ x h = record { holds = h }

  pub from_0< : (x : Ex) → pos 0 <ℤ eval ρ x → Positive ρ x
  from_0< x h = record { holds = h }

  pub from-≤0 : (x : Ex) → eval ρ x ≤ℤ pos 0 → NonNeg ρ (⊝ x)
  from-≤0 x h = record { holds = omega (order, negation (eval ρ x)) }

  pub from-<0 : (x : Ex) → eval ρ x <ℤ pos 0 → Positive ρ (⊝ x)
  from-<0 x h = record { holds = omega (order, negation (eval ρ x)) }

  pub from-≡0 : (x : Ex) → eval ρ x ≡ pos 0 → Zero ρ x
  from-≡0 x h = record { holds = h }

  -- a number above 0, `number ρ 3 tt`
  pub number : (n : ℕ) → T (ltb 0 n) → Positive ρ (num (pos n))
  number n t = record { holds = lt_z_yes t }

  -- a square is not negative
  pub square : (x : Ex) → NonNeg ρ (x ⊗ x)
  square x = record { holds = 0≤-square (eval ρ x) }

-- ---- combinations
abbrev pub of_sum : Sign → Sign → Sign
of_sum ≡0 t = t
of_sum ≥0 ≡0 = ≥0
of_sum ≥0 ≥0 = ≥0
of_sum ≥0 >0 = >0
of_sum >0 t = >0

abbrev pub of_product : Sign → Sign → Sign
of_product ≡0 t = ≡0
of_product ≥0 ≡0 = ≡0
of_product ≥0 ≥0 = ≥0
of_product ≥0 >0 = ≥0
of_product >0 t = t

says_weaker : (s : Sign) (a : ℤ) → Says s a → pos 0 ≤ℤ a
says_weaker ≡0 a h = omega order
says_weaker ≥0 a h = h
says_weaker >0 a h = omega order

says_sum : (s t : Sign) (a b : ℤ) → Says s a → Says t b → Says (of_sum s t) (a +ℤ b)
says_sum ≡0 ≡0 a b h g = omega (order, sum a b)
says_sum ≡0 ≥0 a b h g = omega (order, sum a b)
says_sum ≡0 >0 a b h g = omega (order, sum a b)
says_sum ≥0 ≡0 a b h g = omega (order, sum a b)
says_sum ≥0 ≥0 a b h g = omega (order, sum a b)
says_sum ≥0 >0 a b h g = omega (order, sum a b)
says_sum >0 t a b h g = let w = says_weaker t b g in omega (order, sum a b)

says_product : (s t : Sign) (a b : ℤ) → Says s a → Says t b → Says (of_product s t) (a *ℤ b)
says_product ≡0 t a b h g = ap (λ (x : ℤ). x *ℤ b) h ∙ zero-*ℤ b
says_product ≥0 ≡0 a b h g = ap (λ (x : ℤ). a *ℤ x) g ∙ *ℤ-zero a
says_product ≥0 ≥0 a b h g = 0≤-*ℤ h g
says_product ≥0 >0 a b h g = 0≤-*ℤ h (<ℤ→≤ℤ g)
says_product >0 ≡0 a b h g = ap (λ (x : ℤ). a *ℤ x) g ∙ *ℤ-zero a
says_product >0 ≥0 a b h g = 0≤-*ℤ (<ℤ→≤ℤ h) g
says_product >0 >0 a b h g = 0<-*ℤ h g

infixl 6 ◌⊞◌
infixl 7 ◌⊠◌
-- the sum of two facts: above 0 if one is, and 0 added changes nothing
pub ◌⊞◌ : {s t : Sign} {ρ : List ℤ} {a b : Ex} → Fact s ρ a → Fact t ρ b → Fact (of_sum s t) ρ (a ⊕ b)
◌⊞◌ {s} {t} {ρ} {a} {b} h g = record { holds = says_sum s t (eval ρ a) (eval ρ b) h.holds g.holds }

-- the product of two facts: above 0 if both are, and 0 if one is
pub ◌⊠◌ : {s t : Sign} {ρ : List ℤ} {a b : Ex} → Fact s ρ a → Fact t ρ b → Fact (of_product s t) ρ (a ⊗ b)
◌⊠◌ {s} {t} {ρ} {a} {b} h g = record { holds = says_product s t (eval ρ a) (eval ρ b) h.holds g.holds }

-- an equation times any expression
pub scaled : {ρ : List ℤ} {a : Ex} → Zero ρ a → (b : Ex) → Zero ρ (a ⊗ b)
scaled {ρ} {a} h b = record { holds = ap (λ (x : ℤ). x *ℤ eval ρ b) h.holds ∙ zero-*ℤ (eval ρ b) }

-- above 0, or 0, is not negative
pub weaken : {s : Sign} {ρ : List ℤ} {e : Ex} → Fact s ρ e → NonNeg ρ e
weaken {s} {ρ} {e} h = record { holds = says_weaker s (eval ρ e) h.holds }

-- the same fact of an expression that is equal by the laws of the ring
pub restate : {s : Sign} {ρ : List ℤ} {e : Ex} → Fact s ρ e → (f : Ex) → norm e ≡ norm f → Fact s ρ f
restate {s} {ρ} {e} h f q = record { holds = subst (Says s) (ring ρ e f q) h.holds }

-- ---- ways out. `conclude-≤ h x y refl`, if h is about an expression equal to y ⊖ x
module _ {ρ : List ℤ} {e : Ex} where
  pub conclude-≤ : {s : Sign} → Fact s ρ e → (x y : Ex) → norm e ≡ norm (y ⊖ x) → eval ρ x ≤ℤ eval ρ y
  conclude-≤ h x y q = let g = (restate (weaken h) (y ⊖ x) q).holds in omega (order, difference (eval ρ y) (eval ρ x))

  pub conclude-< : Positive ρ e → (x y : Ex) → norm e ≡ norm (y ⊖ x) → eval ρ x <ℤ eval ρ y
  conclude-< h x y q = let g = (restate h (y ⊖ x) q).holds in omega (order, difference (eval ρ y) (eval ρ x))

  pub conclude-≡ : Zero ρ e → (x y : Ex) → norm e ≡ norm (y ⊖ x) → eval ρ x ≡ eval ρ y
  conclude-≡ h x y q = let g = (restate h (y ⊖ x) q).holds in omega (order, difference (eval ρ y) (eval ρ x))

-- the same with a positive factor cancelled: `cancel-≤ p h x y refl`, if h is about an expression equal to c ⊗ (y ⊖ x)
module _ {ρ : List ℤ} {c e : Ex} (p : Positive ρ c) where
  pub cancel-≤ : {s : Sign} → Fact s ρ e → (x y : Ex) → norm e ≡ norm (c ⊗ (y ⊖ x)) → eval ρ x ≤ℤ eval ρ y
  cancel-≤ h x y q = let g = cancel_0≤ (eval ρ c) (eval ρ (y ⊖ x)) p.holds (restate (weaken h) (c ⊗ (y ⊖ x)) q).holds in omega (order, difference (eval ρ y) (eval ρ x))

  pub cancel-< : Positive ρ e → (x y : Ex) → norm e ≡ norm (c ⊗ (y ⊖ x)) → eval ρ x <ℤ eval ρ y
  cancel-< h x y q = let g = cancel_0< (eval ρ c) (eval ρ (y ⊖ x)) p.holds (restate h (c ⊗ (y ⊖ x)) q).holds in omega (order, difference (eval ρ y) (eval ρ x))

  pub cancel-≡ : Zero ρ e → (x y : Ex) → norm e ≡ norm (c ⊗ (y ⊖ x)) → eval ρ x ≡ eval ρ y
  cancel-≡ h x y q = let g = cancel-≡0 (eval ρ c) (eval ρ (y ⊖ x)) p.holds (restate h (c ⊗ (y ⊖ x)) q).holds in omega (order, difference (eval ρ y) (eval ρ x))

-- a combination that is a number of another sign: `refute h (negsuc 0) tt refl` proves anything
abbrev pub against : Sign → ℤ → Bool
against ≡0 c = not (eqZ c (pos 0))
against ≥0 c = lt_z c (pos 0)
against >0 c = le_z c (pos 0)

clash : (s : Sign) (c : ℤ) → Says s c → T (against s c) → ⊥
clash ≡0 c h t = eqZ_no c (pos 0) t h
clash ≥0 c h t = let g : c <ℤ pos 0 = lt_z_yes t in omega order
clash >0 c h t = let g : c ≤ℤ pos 0 = le_z_yes t in omega order

pub refute {ℓ} : {X : Type ℓ} {s : Sign} {ρ : List ℤ} {e : Ex} → Fact s ρ e → (c : ℤ) → T (against s c) → norm e ≡ norm (num c) → X
refute {s} h c t q = absurd (clash s c (restate h (num c) q).holds t)

-- ---- examples
module _ (a b c d : ℤ) where
  a_factor : a ≤ℤ b → pos 0 ≤ℤ c → (a *ℤ c) ≤ℤ (b *ℤ c)
  a_factor h g = conclude-≤ (from-≤ ρ (var 0) (var 1) h ⊠ from_0≤ ρ (var 2) g) (var 0 ⊗ var 2) (var 1 ⊗ var 2) refl
    where
      ρ : List ℤ
      ρ = a ∷ b ∷ c ∷ []

  two_products : (pos 2 *ℤ (a *ℤ b)) ≤ℤ (a *ℤ a +ℤ b *ℤ b)
  two_products = conclude-≤ (square (a ∷ b ∷ []) (var 0 ⊖ var 1)) (num (pos 2) ⊗ (var 0 ⊗ var 1)) (var 0 ⊗ var 0 ⊕ var 1 ⊗ var 1) refl

  in_turn : a <ℤ b → b ≤ℤ c → ¬ ((c +ℤ d *ℤ d) ≤ℤ a)
  in_turn h g k = refute (from-< ρ (var 0) (var 1) h ⊞ from-≤ ρ (var 1) (var 2) g ⊞ from-≤ ρ (var 2 ⊕ var 3 ⊗ var 3) (var 0) k ⊞ square ρ (var 3)) (pos 0) tt refl
    where
      ρ : List ℤ
      ρ = a ∷ b ∷ c ∷ d ∷ []

  a_factor_less : pos 0 <ℤ c → c *ℤ a ≡ c *ℤ b → a ≡ b
  a_factor_less h e = cancel-≡ (from_0< ρ (var 2) h) (from-≡ ρ (var 2 ⊗ var 0) (var 2 ⊗ var 1) e) (var 0) (var 1) refl
    where
      ρ : List ℤ
      ρ = a ∷ b ∷ c ∷ []

  -- an equation times an expression
  both_factors : a ≡ b → c ≡ d → a *ℤ c ≡ b *ℤ d
  both_factors h g = conclude-≡ (scaled (from-≡ ρ (var 0) (var 1) h) (var 2) ⊞ scaled (from-≡ ρ (var 2) (var 3) g) (var 1)) (var 0 ⊗ var 2) (var 1 ⊗ var 3) refl
    where
      ρ : List ℤ
      ρ = a ∷ b ∷ c ∷ d ∷ []

abbrev side : (ae an be bn ce cn : ℤ) → ℤ
side ae an be bn ce cn = (be -ℤ ae) *ℤ (cn -ℤ an) -ℤ (bn -ℤ an) *ℤ (ce -ℤ ae)

-- on which side of a line: p, q and s (0, 1, 2), with s between p and q by its east and not left of pq, and a line uv (3, 4). If neither p
-- nor q is left of uv, then s is not
module _ (pe pn qe qn se sn ue un ve vn : ℤ) where
  not_left : pe <ℤ qe → pe ≤ℤ se → se ≤ℤ qe → ue <ℤ ve → side ue un ve vn pe pn ≤ℤ pos 0 → side ue un ve vn qe qn ≤ℤ pos 0 → side pe pn qe qn se sn ≤ℤ pos 0 → side ue un ve vn se sn ≤ℤ pos 0
  not_left pq ps sq uv p q s = cancel-≤ (from-< ρ (east 0) (east 1) pq) (from-≤ ρ (east 2) (east 1) sq ⊠ from-≤0 ρ (tri 3 4 0) p ⊞ from-≤ ρ (east 0) (east 2) ps ⊠ from-≤0 ρ (tri 3 4 1) q ⊞ from-< ρ (east 3) (east 4) uv ⊠ from-≤0 ρ (tri 0 1 2) s) (tri 3 4 2) (num (pos 0)) refl
    where
      ρ : List ℤ
      ρ = pe ∷ pn ∷ qe ∷ qn ∷ se ∷ sn ∷ ue ∷ un ∷ ve ∷ vn ∷ []
