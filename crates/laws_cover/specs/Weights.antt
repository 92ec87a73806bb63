-- Streams weighed: what every part of them comes to under one list of weights. All the weight may be put on one stream, and two lists of weights mixed; where
-- the one comes to no less than a stream and the other to no more, that makes it a mean.
-- Assumes nothing.
use Rattle.std.specs.Prelude.{◌≡◌, ◌⊎◌, ℕ, suc, ◌+◌, ◌*◌, ℤ, negsuc, ◌+ℤ◌, ◌*ℤ◌, ◌≤ℤ◌, ◌<ℤ◌, length}
use Rattle.std.proofs.Math.Path.{refl, ap}
use Rattle.std.proofs.Common.{sym, ap₂, ◌∙◌, subst, inl, inr, ⊎_elim, arith}
use mathlib.Core.List.Memᴰ
use mathlib.Core.List.{List, [], ◌∷◌, Memᴰ}
use Rattle.std.proofs.Math.IntN.{pos, *ℤ-zero}
use Rattle.whole.specs.Linear.{order}
use Rattle.whole.specs.Laws.{≤ℤ_of-≡, ≤ℤ_split, <ℤ→≤ℤ}
use Rattle.whole.specs.Solver.{Ex, eval, ring, var, num, ◌⊕◌, ◌⊖◌, ◌⊗◌, east, north}
use Rattle.whole.specs.Certificate.{◌⊞◌, ◌⊠◌, scaled, from-≤, from-<, from-≡, from_0≤, from_0<, conclude-≤, conclude-≡}
use Rattle.rules.specs.Streams.{Stream}
use Rattle.rules.specs.Use.{weighed, total, Mean, set_on}

-- ---- what parts come to

pub weighed-nothing : (f : Stream → ℤ) (ws : List ℕ) → weighed f ws [] ≡ pos 0
unfolding weighed
weighed-nothing f [] = refl
weighed-nothing f (w ∷ ws) = refl

-- the sets on a course
pub weighed_sets : (x y : ℤ) (ws : List ℕ) (r : List Stream)
    → weighed (set_on x y) ws r ≡ x *ℤ weighed (λ p. p.east) ws r +ℤ y *ℤ weighed (λ p. p.north) ws r
unfolding weighed set_on
weighed_sets x y [] r = ring (x ∷ y ∷ []) (num (pos 0)) (var 0 ⊗ num (pos 0) ⊕ var 1 ⊗ num (pos 0)) refl
weighed_sets x y (w ∷ ws) [] = ring (x ∷ y ∷ []) (num (pos 0)) (var 0 ⊗ num (pos 0) ⊕ var 1 ⊗ num (pos 0)) refl
weighed_sets x y (w ∷ ws) (p ∷ r) =
    ap (λ (z : ℤ). pos w *ℤ set_on x y p +ℤ z) (weighed_sets x y ws r)
    ∙ ring (x ∷ y ∷ pos w ∷ p.east ∷ p.north ∷ weighed (λ q. q.east) ws r ∷ weighed (λ q. q.north) ws r ∷ [])
    (var 2 ⊗ (var 0 ⊗ var 3 ⊕ var 1 ⊗ var 4) ⊕ (var 0 ⊗ var 5 ⊕ var 1 ⊗ var 6)) (var 0 ⊗ (var 2 ⊗ var 3 ⊕ var 5) ⊕ var 1 ⊗ (var 2 ⊗ var 4 ⊕ var 6)) refl

0≤pos : (n : ℕ) → pos 0 ≤ℤ pos n
0≤pos n = omega order

-- a part that is at most M for every stream comes to at most M for each weight
pub weighed-most : (f : Stream → ℤ) (M : ℤ) (ws : List ℕ) (r : List Stream) → ((p : Stream) → Memᴰ p r → f p ≤ℤ M)
    → weighed f ws r ≤ℤ (M *ℤ total ws r)
unfolding weighed
weighed-most f M [] r h = ≤ℤ_of-≡ (sym (*ℤ-zero M))
weighed-most f M (w ∷ ws) [] h = ≤ℤ_of-≡ (sym (*ℤ-zero M))
weighed-most f M (w ∷ ws) (p ∷ r) h =
    conclude-≤ (from_0≤ ρ (var 0) (0≤pos w) ⊠ from-≤ ρ (var 1) (var 2) (h p (Memᴰ.head refl))
    ⊞ from-≤ ρ (var 3) (var 2 ⊗ var 4) (weighed-most f M ws r (λ q m. h q (Memᴰ.tail m))))
    (var 0 ⊗ var 1 ⊕ var 3) (var 2 ⊗ (var 0 ⊗ num (pos 1) ⊕ var 4)) refl
  where
    ρ : List ℤ
    ρ = pos w ∷ f p ∷ M ∷ weighed f ws r ∷ total ws r ∷ []

-- ---- weights, one for each stream of r, under which every part f comes to F f

pub record Weighing (r : List Stream) (F : (Stream → ℤ) → ℤ) : Type 0 where
  pub weights : List ℕ
  pub for_each : length weights ≡ length r
  pub comes : (f : Stream → ℤ) → weighed f weights r ≡ F f

-- one stream more, and its weight
more : {r : List Stream} {F G : (Stream → ℤ) → ℤ} (w : ℕ) (p : Stream) → Weighing r F → ((f : Stream → ℤ) → pos w *ℤ f p +ℤ F f ≡ G f) → Weighing (p ∷ r) G
unfolding weighed
more w p h e = record {
  weights = w ∷ h.weights;
  for_each = ap suc h.for_each;
  comes = λ f. ap (λ (z : ℤ). pos w *ℤ f p +ℤ z) (h.comes f) ∙ e f;
}

-- no weight at all
no_weight : (r : List Stream) → Weighing r (λ f. pos 0)
unfolding weighed
no_weight [] = record { weights = []; for_each = refl; comes = λ f. refl }
no_weight (p ∷ r) = more 0 p (no_weight r) (λ f. ring (f p ∷ []) (num (pos 0) ⊗ var 0 ⊕ num (pos 0)) (num (pos 0)) refl)

-- all the weight on one stream
pub all_on : (r : List Stream) {p : Stream} → Memᴰ p r → Weighing r (λ f. f p)
all_on [] m = absurd (Memᴰ.not-nil m)
all_on (q ∷ r) {p} m = go (Memᴰ.cases_cons m) (all_on r)
  where
    go : (p ≡ q) ⊎ Memᴰ p r → (Memᴰ p r → Weighing r (λ f. f p)) → Weighing (q ∷ r) (λ f. f p)
    go (inl e) later = more 1 q (no_weight r) (λ f. ring (f q ∷ []) (num (pos 1) ⊗ var 0 ⊕ num (pos 0)) (var 0) refl ∙ ap f (sym e))
    go (inr n) later = more 0 q (later n) (λ f. ring (f q ∷ f p ∷ []) (num (pos 0) ⊗ var 0 ⊕ var 1) (var 1) refl)

-- m times the one and n times the other
module _ (m n : ℕ) where
  abbrev mixed : List ℕ → List ℕ → List ℕ
  mixed [] ws = []
  mixed (v ∷ vs) [] = []
  mixed (v ∷ vs) (w ∷ ws) = (m * v + n * w) ∷ mixed vs ws

  mixed-length : (vs ws : List ℕ) → length vs ≡ length ws → length (mixed vs ws) ≡ length ws
  mixed-length [] ws e = e
  mixed-length (v ∷ vs) [] e = omega arith
  mixed-length (v ∷ vs) (w ∷ ws) e = ap suc (mixed-length vs ws (omega arith))

  mixed-weighed : (f : Stream → ℤ) (vs ws : List ℕ) (r : List Stream) → length vs ≡ length ws
      → weighed f (mixed vs ws) r ≡ pos m *ℤ weighed f vs r +ℤ pos n *ℤ weighed f ws r
  unfolding weighed
  mixed-weighed f [] [] r e = ring (pos m ∷ pos n ∷ []) (num (pos 0)) (var 0 ⊗ num (pos 0) ⊕ var 1 ⊗ num (pos 0)) refl
  mixed-weighed f [] (w ∷ ws) r e = absurd (omega arith)
  mixed-weighed f (v ∷ vs) [] r e = absurd (omega arith)
  mixed-weighed f (v ∷ vs) (w ∷ ws) [] e = ring (pos m ∷ pos n ∷ []) (num (pos 0)) (var 0 ⊗ num (pos 0) ⊕ var 1 ⊗ num (pos 0)) refl
  mixed-weighed f (v ∷ vs) (w ∷ ws) (p ∷ r) e =
      ap (λ (z : ℤ). pos (m * v + n * w) *ℤ f p +ℤ z) (mixed-weighed f vs ws r (omega arith))
      ∙ ring (pos m ∷ pos n ∷ pos v ∷ pos w ∷ f p ∷ weighed f vs r ∷ weighed f ws r ∷ [])
      ((var 0 ⊗ var 2 ⊕ var 1 ⊗ var 3) ⊗ var 4 ⊕ (var 0 ⊗ var 5 ⊕ var 1 ⊗ var 6)) (var 0 ⊗ (var 2 ⊗ var 4 ⊕ var 5) ⊕ var 1 ⊗ (var 3 ⊗ var 4 ⊕ var 6)) refl

pub mix : {r : List Stream} {F G : (Stream → ℤ) → ℤ} (m n : ℤ) → pos 0 ≤ℤ m → pos 0 ≤ℤ n → Weighing r F → Weighing r G
    → Weighing r (λ f. m *ℤ F f +ℤ n *ℤ G f)
mix (pos m) (pos n) hm hn v w = record {
  weights = mixed m n v.weights w.weights;
  for_each = mixed-length m n v.weights w.weights even ∙ w.for_each;
  comes = λ f. mixed-weighed m n f v.weights w.weights _ even ∙ ap₂ (λ (a b : ℤ). pos m *ℤ a +ℤ pos n *ℤ b) (v.comes f) (w.comes f);
}
  where
    even : length v.weights ≡ length w.weights
    even = v.for_each ∙ sym w.for_each
mix (pos m) (negsuc n) hm hn v w = absurd hn.le
mix (negsuc m) n hm hn v w = absurd hm.le

-- ---- a mean by its weights

-- what the weights, the easts and the norths come to
abbrev pub in_all : ((Stream → ℤ) → ℤ) → ℤ
in_all F = F (λ p. pos 1)

abbrev pub to_east : ((Stream → ℤ) → ℤ) → ℤ
to_east F = F (λ p. p.east)

abbrev pub to_north : ((Stream → ℤ) → ℤ) → ℤ
to_north F = F (λ p. p.north)

mean_of : {r : List Stream} {s : Stream} {F : (Stream → ℤ) → ℤ} → Weighing r F → pos 0 <ℤ in_all F → to_east F ≡ in_all F *ℤ s.east
    → to_north F ≡ in_all F *ℤ s.north → Mean r s
mean_of {r} {s} {F} w h e n = record {
  weights = w.weights;
  for_each = w.for_each;
  not_all_0 = subst (λ (z : ℤ). pos 0 <ℤ z) (sym all) h;
  of_easts = w.comes (λ p. p.east) ∙ e ∙ ap (λ (z : ℤ). z *ℤ s.east) (sym all);
  of_norths = w.comes (λ p. p.north) ∙ n ∙ ap (λ (z : ℤ). z *ℤ s.north) (sym all);
}
  where
    all : total w.weights r ≡ in_all F
    all = w.comes (λ p. pos 1)

-- streams weighed once so that they come to s's east and no less than its north, and once so that they come to no more: both mixed come to s
pub mean_between : {r : List Stream} {s : Stream} {F G : (Stream → ℤ) → ℤ} → Weighing r F → pos 0 <ℤ in_all F → to_east F ≡ in_all F *ℤ s.east
    → (in_all F *ℤ s.north) ≤ℤ to_north F → Weighing r G → pos 0 <ℤ in_all G → to_east G ≡ in_all G *ℤ s.east
    → to_north G ≤ℤ (in_all G *ℤ s.north) → Mean r s
mean_between {r} {s} {F} {G} v hv ev nv w hw ew nw = ⊎_elim mixed (λ e. mean_of v hv ev (sym e)) (≤ℤ_split nv)
  where
    ρ : List ℤ
    ρ = s.east ∷ s.north ∷ in_all F ∷ to_east F ∷ to_north F ∷ in_all G ∷ to_east G ∷ to_north G ∷ []

    -- how far above, and how far below
    a : Ex
    a = var 4 ⊖ var 2 ⊗ north 0

    b : Ex
    b = var 5 ⊗ north 0 ⊖ var 7

    mixed : (in_all F *ℤ s.north) <ℤ to_north F → Mean r s
    mixed h =
        let below = from-≤ ρ (var 7) (var 5 ⊗ north 0) nw in
        let above = from-< ρ (var 2 ⊗ north 0) (var 4) h in
        mean_of (mix (eval ρ b) (eval ρ a) below.holds (<ℤ→≤ℤ above.holds) v w)
        (below ⊠ from_0< ρ (var 2) hv ⊞ above ⊠ from_0< ρ (var 5) hw).holds
        (conclude-≡ (scaled (from-≡ ρ (var 3) (var 2 ⊗ east 0) ev) b ⊞ scaled (from-≡ ρ (var 6) (var 5 ⊗ east 0) ew) a)
        (b ⊗ var 3 ⊕ a ⊗ var 6) ((b ⊗ var 2 ⊕ a ⊗ var 5) ⊗ east 0) refl)
        (ring ρ (b ⊗ var 4 ⊕ a ⊗ var 7) ((b ⊗ var 2 ⊕ a ⊗ var 5) ⊗ north 0) refl)
