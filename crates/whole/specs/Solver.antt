-- A solver for identities of the ring of integers, by reflection: an identity is written in syntax over numbered variables, both
-- sides are brought to a normal form by computation, and if those are the same then the sides are equal. Assumes nothing.
use Rattle.std.specs.Prelude.{◌≡◌, refl, List, [], ◌∷◌, T, get_or, ℤ, pos, negsuc, neg_ℤ, ◌+ℤ◌, ◌-ℤ◌, ◌*ℤ◌}
use Rattle.std.proofs.Common.{sym, ap, ap₂, ◌∙◌, eqb→eq}
use Prim.Native.Nat.{ℕ, zero, suc, ◌+◌, ◌*◌, compare, Ordering}
use native.Mathlib.Omega.{pick, ins, join}
use Rattle.std.proofs.Math.Dec.{compare_is_eq}
use Rattle.std.proofs.Math.IntN.{+ℤ_assoc, +ℤ_comm, +ℤ_idl, +ℤ_idr, zero-*ℤ, *ℤ-zero, *ℤ_comm}
use Rattle.whole.specs.Laws.{+ℤ-*ℤ, *ℤ-+ℤ, *ℤ_assoc, *ℤ_idl, *ℤ_idr, negℤ-*ℤ, *ℤ_swap, +ℤ_swap}

-- ---- the syntax, and what it stands for
infixl 6 ◌⊕◌ ◌⊖◌
infixl 7 ◌⊗◌
infix 8 ⊝◌
pub data Ex : Type 0 where
  var : ℕ → Ex
  num : ℤ → Ex
  ◌⊕◌ : Ex → Ex → Ex
  ◌⊖◌ : Ex → Ex → Ex
  ◌⊗◌ : Ex → Ex → Ex
  ⊝◌ : Ex → Ex

-- variable i is the i-th number of the list
abbrev pub eval : List ℤ → Ex → ℤ
eval ρ (var i) = get_or ρ i (pos 0)
eval ρ (num c) = c
eval ρ (a ⊕ b) = eval ρ a +ℤ eval ρ b
eval ρ (a ⊖ b) = eval ρ a -ℤ eval ρ b
eval ρ (a ⊗ b) = eval ρ a *ℤ eval ρ b
eval ρ (⊝ a) = neg_ℤ (eval ρ a)

-- ---- normal forms: monomials in order, none twice, each with a factor that is not 0. A monomial is the places of its variables, in order
pub data Poly : Type 0 where
  end : Poly
  term : ℤ → List ℕ → Poly → Poly

abbrev mono : List ℤ → List ℕ → ℤ
mono ρ [] = pos 1
mono ρ (i ∷ m) = get_or ρ i (pos 0) *ℤ mono ρ m

abbrev value : List ℤ → Poly → ℤ
value ρ end = pos 0
value ρ (term c m p) = c *ℤ mono ρ m +ℤ value ρ p

-- the order of monomials, one that products keep: so a normal form times a monomial is in order
abbrev pub first_then : Ordering → Ordering → Ordering
first_then Ordering.lt o = Ordering.lt
first_then Ordering.eq o = o
first_then Ordering.gt o = Ordering.gt

abbrev pub place : List ℕ → List ℕ → Ordering
place [] [] = Ordering.eq
place [] (j ∷ n) = Ordering.gt
place (i ∷ m) [] = Ordering.lt
place (i ∷ m) (j ∷ n) = first_then (compare i j) (place m n)

abbrev pub keep : ℤ → List ℕ → Poly → Poly
keep (pos zero) m p = p
keep (pos (suc c)) m p = term (pos (suc c)) m p
keep (negsuc c) m p = term (negsuc c) m p

abbrev pub three : Ordering → Poly → Poly → Poly → Poly
three Ordering.lt x y z = x
three Ordering.eq x y z = y
three Ordering.gt x y z = z

-- a first monomial, and how the rest is added
abbrev pub weave : ℤ → List ℕ → Poly → (Poly → Poly) → Poly → Poly
weave c m p f end = term c m p
weave c m p f (term d n q) =
    let x = term c m (f (term d n q)) in
    let y = keep (c +ℤ d) m (f q) in
    let z = term d n (weave c m p f q) in
    three (place m n) x y z

abbrev pub plus : Poly → Poly → Poly
plus end q = q
plus (term c m p) q = weave c m p (λ r. plus p r) q

abbrev pub scale : ℤ → List ℕ → Poly → Poly
scale c m end = end
scale c m (term d n p) = term (c *ℤ d) (join m n) (scale c m p)

abbrev pub times : Poly → Poly → Poly
times end q = end
times (term c m p) q = plus (scale c m q) (times p q)

abbrev pub norm : Ex → Poly
norm (var i) = term (pos 1) (i ∷ []) end
norm (num c) = keep c [] end
norm (a ⊕ b) = plus (norm a) (norm b)
norm (a ⊖ b) = plus (norm a) (scale (negsuc 0) [] (norm b))
norm (a ⊗ b) = times (norm a) (norm b)
norm (⊝ a) = scale (negsuc 0) [] (norm a)

-- ---- the normal form has the same value
mono_pick : (ρ : List ℤ) (o : Ordering) (x y : List ℕ) (u : ℤ) → mono ρ x ≡ u → mono ρ y ≡ u → mono ρ (pick o x y) ≡ u
mono_pick ρ Ordering.lt x y u p q = p
mono_pick ρ Ordering.eq x y u p q = p
mono_pick ρ Ordering.gt x y u p q = q

left_comm : (a b c : ℤ) → a *ℤ (b *ℤ c) ≡ b *ℤ (a *ℤ c)
left_comm a b c = sym (*ℤ_assoc a b c) ∙ ap (λ (x : ℤ). x *ℤ c) (*ℤ_comm a b) ∙ *ℤ_assoc b a c

mono_ins : (ρ : List ℤ) (i : ℕ) (m : List ℕ) → mono ρ (ins i m) ≡ get_or ρ i (pos 0) *ℤ mono ρ m
mono_ins ρ i [] = refl
mono_ins ρ i (j ∷ m) = mono_pick ρ (compare i j) (i ∷ j ∷ m) (j ∷ ins i m) (get_or ρ i (pos 0) *ℤ (get_or ρ j (pos 0) *ℤ mono ρ m)) refl (ap (λ (x : ℤ). get_or ρ j (pos 0) *ℤ x) (mono_ins ρ i m) ∙ left_comm (get_or ρ j (pos 0)) (get_or ρ i (pos 0)) (mono ρ m))

mono-join : (ρ : List ℤ) (m n : List ℕ) → mono ρ (join m n) ≡ mono ρ m *ℤ mono ρ n
mono-join ρ [] n = sym (*ℤ_idl (mono ρ n))
mono-join ρ (i ∷ m) n = mono_ins ρ i (join m n) ∙ ap (λ (x : ℤ). get_or ρ i (pos 0) *ℤ x) (mono-join ρ m n) ∙ sym (*ℤ_assoc (get_or ρ i (pos 0)) (mono ρ m) (mono ρ n))

both-eq : (o o' : Ordering) → T (compare_is_eq (first_then o o')) → T (compare_is_eq o) × T (compare_is_eq o')
both-eq Ordering.lt o' t = absurd t
both-eq Ordering.eq o' t = (tt, t)
both-eq Ordering.gt o' t = absurd t

same_place : (m n : List ℕ) → T (compare_is_eq (place m n)) → m ≡ n
same_place [] [] t = refl
same_place [] (j ∷ n) t = absurd t
same_place (i ∷ m) [] t = absurd t
same_place (i ∷ m) (j ∷ n) t = let b = both-eq (compare i j) (place m n) t in ap₂ ◌∷◌ (eqb→eq i j b.0) (same_place m n b.1)

value-keep : (ρ : List ℤ) (c : ℤ) (m : List ℕ) (p : Poly) → value ρ (keep c m p) ≡ c *ℤ mono ρ m +ℤ value ρ p
value-keep ρ (pos zero) m p = sym (+ℤ_idl (value ρ p)) ∙ ap (λ (x : ℤ). x +ℤ value ρ p) (sym (zero-*ℤ (mono ρ m)))
value-keep ρ (pos (suc c)) m p = refl
value-keep ρ (negsuc c) m p = refl

value-three : (ρ : List ℤ) (o : Ordering) (x y z : Poly) (u : ℤ) → value ρ x ≡ u → (T (compare_is_eq o) → value ρ y ≡ u) → value ρ z ≡ u → value ρ (three o x y z) ≡ u
value-three ρ Ordering.lt x y z u p q r = p
value-three ρ Ordering.eq x y z u p q r = q tt
value-three ρ Ordering.gt x y z u p q r = r

value-weave : (ρ : List ℤ) (c : ℤ) (m : List ℕ) (p : Poly) (f : Poly → Poly) → ((r : Poly) → value ρ (f r) ≡ value ρ p +ℤ value ρ r) → (q : Poly) → value ρ (weave c m p f q) ≡ (c *ℤ mono ρ m +ℤ value ρ p) +ℤ value ρ q
value-weave ρ c m p f h end = sym (+ℤ_idr (c *ℤ mono ρ m +ℤ value ρ p))
value-weave ρ c m p f h (term d n q) = value-three ρ (place m n) (term c m (f (term d n q))) (keep (c +ℤ d) m (f q)) (term d n (weave c m p f q)) ((cm +ℤ vp) +ℤ (dn +ℤ vq)) before same (after (value-weave ρ c m p f h q))
  where
    cm : ℤ
    cm = c *ℤ mono ρ m

    dn : ℤ
    dn = d *ℤ mono ρ n

    vp : ℤ
    vp = value ρ p

    vq : ℤ
    vq = value ρ q

    before : cm +ℤ value ρ (f (term d n q)) ≡ (cm +ℤ vp) +ℤ (dn +ℤ vq)
    before = ap (λ (x : ℤ). cm +ℤ x) (h (term d n q)) ∙ sym (+ℤ_assoc cm vp (dn +ℤ vq))

    same : T (compare_is_eq (place m n)) → value ρ (keep (c +ℤ d) m (f q)) ≡ (cm +ℤ vp) +ℤ (dn +ℤ vq)
    same t = value-keep ρ (c +ℤ d) m (f q) ∙ ap₂ ◌+ℤ◌ (+ℤ-*ℤ c d (mono ρ m)) (h q) ∙ +ℤ_swap cm (d *ℤ mono ρ m) vp vq ∙ ap (λ (x : List ℕ). (cm +ℤ vp) +ℤ (d *ℤ mono ρ x +ℤ vq)) (same_place m n t)

    after : value ρ (weave c m p f q) ≡ (cm +ℤ vp) +ℤ vq → dn +ℤ value ρ (weave c m p f q) ≡ (cm +ℤ vp) +ℤ (dn +ℤ vq)
    after e = ap (λ (x : ℤ). dn +ℤ x) e ∙ sym (+ℤ_assoc dn (cm +ℤ vp) vq) ∙ ap (λ (x : ℤ). x +ℤ vq) (+ℤ_comm dn (cm +ℤ vp)) ∙ +ℤ_assoc (cm +ℤ vp) dn vq

value-plus : (ρ : List ℤ) (p q : Poly) → value ρ (plus p q) ≡ value ρ p +ℤ value ρ q
value-plus ρ end q = sym (+ℤ_idl (value ρ q))
value-plus ρ (term c m p) q = value-weave ρ c m p (λ r. plus p r) (λ r. value-plus ρ p r) q

value-scale : (ρ : List ℤ) (c : ℤ) (m : List ℕ) (p : Poly) → value ρ (scale c m p) ≡ c *ℤ mono ρ m *ℤ value ρ p
value-scale ρ c m end = sym (*ℤ-zero (c *ℤ mono ρ m))
value-scale ρ c m (term d n p) = ap₂ ◌+ℤ◌ (ap (λ (x : ℤ). c *ℤ d *ℤ x) (mono-join ρ m n) ∙ *ℤ_swap c d (mono ρ m) (mono ρ n)) (value-scale ρ c m p) ∙ sym (*ℤ-+ℤ (c *ℤ mono ρ m) (d *ℤ mono ρ n) (value ρ p))

value-times : (ρ : List ℤ) (p q : Poly) → value ρ (times p q) ≡ value ρ p *ℤ value ρ q
value-times ρ end q = sym (zero-*ℤ (value ρ q))
value-times ρ (term c m p) q = value-plus ρ (scale c m q) (times p q) ∙ ap₂ ◌+ℤ◌ (value-scale ρ c m q) (value-times ρ p q) ∙ sym (+ℤ-*ℤ (c *ℤ mono ρ m) (value ρ p) (value ρ q))

value-minus : (ρ : List ℤ) (p : Poly) → value ρ (scale (negsuc 0) [] p) ≡ neg_ℤ (value ρ p)
value-minus ρ p = value-scale ρ (negsuc 0) [] p ∙ negℤ-*ℤ (pos 1) (value ρ p) ∙ ap neg_ℤ (*ℤ_idl (value ρ p))

sound : (ρ : List ℤ) (e : Ex) → eval ρ e ≡ value ρ (norm e)
sound ρ (var i) = sym (+ℤ_idr (pos 1 *ℤ (get_or ρ i (pos 0) *ℤ pos 1)) ∙ *ℤ_idl (get_or ρ i (pos 0) *ℤ pos 1) ∙ *ℤ_idr (get_or ρ i (pos 0)))
sound ρ (num c) = sym (value-keep ρ c [] end ∙ +ℤ_idr (c *ℤ pos 1) ∙ *ℤ_idr c)
sound ρ (a ⊕ b) = ap₂ ◌+ℤ◌ (sound ρ a) (sound ρ b) ∙ sym (value-plus ρ (norm a) (norm b))
sound ρ (a ⊖ b) = ap₂ ◌+ℤ◌ (sound ρ a) (ap neg_ℤ (sound ρ b) ∙ sym (value-minus ρ (norm b))) ∙ sym (value-plus ρ (norm a) (scale (negsuc 0) [] (norm b)))
sound ρ (a ⊗ b) = ap₂ ◌*ℤ◌ (sound ρ a) (sound ρ b) ∙ sym (value-times ρ (norm a) (norm b))
sound ρ (⊝ a) = ap neg_ℤ (sound ρ a) ∙ sym (value-minus ρ (norm a))

-- THE LAW: sides with one normal form are equal. `ring ρ l r refl`
pub ring : (ρ : List ℤ) (l r : Ex) → norm l ≡ norm r → eval ρ l ≡ eval ρ r
ring ρ l r e = sound ρ l ∙ ap (value ρ) e ∙ sym (sound ρ r)

-- ---- the side of a point, in syntax. The list holds points flat, e0 n0 e1 n1 ..: point p has its east at 2p and its north at 2p + 1.
-- `tri p q r` is (qe - pe) * (rn - pn) - (qn - pn) * (re - pe)
abbrev pub east : ℕ → Ex
east p = var (2 * p)

abbrev pub north : ℕ → Ex
north p = var (2 * p + 1)

abbrev pub tri : ℕ → ℕ → ℕ → Ex
tri p q r = (east q ⊖ east p) ⊗ (north r ⊖ north p) ⊖ (north q ⊖ north p) ⊗ (east r ⊖ east p)

-- ---- examples
module _ (a b c d : ℤ) where
  square : (a +ℤ b) *ℤ (a +ℤ b) ≡ a *ℤ a +ℤ pos 2 *ℤ (a *ℤ b) +ℤ b *ℤ b
  square = ring (a ∷ b ∷ []) ((var 0 ⊕ var 1) ⊗ (var 0 ⊕ var 1)) (var 0 ⊗ var 0 ⊕ num (pos 2) ⊗ (var 0 ⊗ var 1) ⊕ var 1 ⊗ var 1) refl

  cancelled : (a +ℤ pos 1) *ℤ (a -ℤ pos 1) -ℤ a *ℤ a ≡ negsuc 0
  cancelled = ring (a ∷ []) ((var 0 ⊕ num (pos 1)) ⊗ (var 0 ⊖ num (pos 1)) ⊖ var 0 ⊗ var 0) (num (negsuc 0)) refl

  negated : neg_ℤ (a -ℤ b) *ℤ c ≡ c *ℤ b -ℤ a *ℤ c
  negated = ring (a ∷ b ∷ c ∷ []) (⊝ (var 0 ⊖ var 1) ⊗ var 2) (var 2 ⊗ var 1 ⊖ var 0 ⊗ var 2) refl

  two_squares : (a *ℤ a +ℤ b *ℤ b) *ℤ (c *ℤ c +ℤ d *ℤ d) ≡ (a *ℤ c -ℤ b *ℤ d) *ℤ (a *ℤ c -ℤ b *ℤ d) +ℤ (a *ℤ d +ℤ b *ℤ c) *ℤ (a *ℤ d +ℤ b *ℤ c)
  two_squares = ring (a ∷ b ∷ c ∷ d ∷ []) ((var 0 ⊗ var 0 ⊕ var 1 ⊗ var 1) ⊗ (var 2 ⊗ var 2 ⊕ var 3 ⊗ var 3)) ((var 0 ⊗ var 2 ⊖ var 1 ⊗ var 3) ⊗ (var 0 ⊗ var 2 ⊖ var 1 ⊗ var 3) ⊕ (var 0 ⊗ var 3 ⊕ var 1 ⊗ var 2) ⊗ (var 0 ⊗ var 3 ⊕ var 1 ⊗ var 2)) refl

abbrev sum_of_squares : Ex → Ex → Ex → Ex → Ex
sum_of_squares p q r s = p ⊗ p ⊕ q ⊗ q ⊕ r ⊗ r ⊕ s ⊗ s

abbrev pair : ℕ → ℕ → Ex
pair i j = var i ⊗ var j

-- over any list of points
module _ (ρ : List ℤ) where
  turned : eval ρ (tri 0 1 2) ≡ eval ρ (tri 1 2 0)
  turned = ring ρ (tri 0 1 2) (tri 1 2 0) refl

  swapped : eval ρ (tri 1 0 2) ≡ neg_ℤ (eval ρ (tri 0 1 2))
  swapped = ring ρ (tri 1 0 2) (⊝ tri 0 1 2) refl

  -- four points
  quadrangle : eval ρ (tri 0 1 2) +ℤ eval ρ (tri 0 2 3) ≡ eval ρ (tri 0 1 3) +ℤ eval ρ (tri 1 2 3)
  quadrangle = ring ρ (tri 0 1 2 ⊕ tri 0 2 3) (tri 0 1 3 ⊕ tri 1 2 3) refl

  -- five points, of degree 3
  between : eval ρ ((east 1 ⊖ east 0) ⊗ tri 3 4 2) ≡ eval ρ ((east 1 ⊖ east 2) ⊗ tri 3 4 0 ⊕ (east 2 ⊖ east 0) ⊗ tri 3 4 1 ⊕ (east 4 ⊖ east 3) ⊗ tri 0 1 2)
  between = ring ρ ((east 1 ⊖ east 0) ⊗ tri 3 4 2) ((east 1 ⊖ east 2) ⊗ tri 3 4 0 ⊕ (east 2 ⊖ east 0) ⊗ tri 3 4 1 ⊕ (east 4 ⊖ east 3) ⊗ tri 0 1 2) refl

  -- five points, of degree 4
  three_products : eval ρ (tri 0 1 2 ⊗ tri 0 3 4 ⊖ tri 0 1 3 ⊗ tri 0 2 4 ⊕ tri 0 1 4 ⊗ tri 0 2 3) ≡ pos 0
  three_products = ring ρ (tri 0 1 2 ⊗ tri 0 3 4 ⊖ tri 0 1 3 ⊗ tri 0 2 4 ⊕ tri 0 1 4 ⊗ tri 0 2 3) (num (pos 0)) refl

  -- eight numbers, of degree 4
  four_squares : eval ρ (sum_of_squares (var 0) (var 1) (var 2) (var 3) ⊗ sum_of_squares (var 4) (var 5) (var 6) (var 7)) ≡ eval ρ (sum_of_squares (pair 0 4 ⊕ pair 1 5 ⊕ pair 2 6 ⊕ pair 3 7) (pair 0 5 ⊖ pair 1 4 ⊕ pair 2 7 ⊖ pair 3 6) (pair 0 6 ⊖ pair 1 7 ⊖ pair 2 4 ⊕ pair 3 5) (pair 0 7 ⊕ pair 1 6 ⊖ pair 2 5 ⊖ pair 3 4))
  four_squares = ring ρ (sum_of_squares (var 0) (var 1) (var 2) (var 3) ⊗ sum_of_squares (var 4) (var 5) (var 6) (var 7)) (sum_of_squares (pair 0 4 ⊕ pair 1 5 ⊕ pair 2 6 ⊕ pair 3 7) (pair 0 5 ⊖ pair 1 4 ⊕ pair 2 7 ⊖ pair 3 6) (pair 0 6 ⊖ pair 1 7 ⊖ pair 2 4 ⊕ pair 3 5) (pair 0 7 ⊕ pair 1 6 ⊖ pair 2 5 ⊖ pair 3 4)) refl
