-- A chain kept on a stack. Samples come from west to east; each takes away the topmost corners at which the way on to it does not turn strictly right,
-- and is put on top. What stays is the upper chain of all that came. The taking away is Graham's scan.
-- Assumes nothing.
use Rattle.std.specs.Prelude.{◌≡◌, refl, ◌⊎◌, Bool, false, pos, ◌≤ℤ◌, ◌<ℤ◌}
use Rattle.std.proofs.Common.{sym, ap, ap₂, ◌∙◌, inl, inr, ⊎_elim, true≢false, eq-or-lt_of_le}
use Rattle.std.proofs.Math.Path.{subst}
use Rattle.std.proofs.Math.Bool.{true}
use Prim.Native.Nat.{ℕ, zero, suc, ◌-◌, ◌≤◌, ◌<◌}
use Rattle.std.proofs.Math.Decide.{le_ind}
use native.Mathlib.Omega.{arith}
use Rattle.std.specs.Int.Signed.{lt_z, ≤ℤ_refl, <ℤ-≤ℤ_trans, clash_ℤ}
use Rattle.whole.specs.Linear.{order, negation}
use Rattle.whole.specs.Laws.{≤ℤ_of-≡, <ℤ_trans, <ℤ→≤ℤ, test-lt, test_nlt}
use Rattle.rules.specs.Streams.{Stream, side}
use Rattle.rules.specs.Chain.{Samples, Turn, UpperChain, empty}
use Rattle.laws_outline.specs.Sidedness.{side_crossed, below-at-second}
use Rattle.laws_outline.specs.Under.{Under, on_self, on_inside, on_trans, under-between, under-at-east}
use Rattle.laws_outline.specs.SameOutline.{same_outline}
use Rattle.laws_neighbours.specs.TurnsMakeChain.{Bends, ends, bends, bending_chain}
use Rattle.laws_stack.specs.Places.{below_or_last, listed, listed_in, in_listed}

-- the samples of S, and s
abbrev pub With : Samples → Stream → Samples
With S s x = S x ⊎ (x ≡ s)

-- s is further east than q, or straight above it
abbrev pub Before : Stream → Stream → Type 0
Before q s = (q.east <ℤ s.east) ⊎ ((q.east ≡ s.east) × (q.north <ℤ s.north))

before_east : {q s : Stream} → Before q s → q.east ≤ℤ s.east
before_east (inl h) = <ℤ→≤ℤ h
before_east (inr h) = ≤ℤ_of-≡ h.0

-- ---- a stack of t corners, f 0 to f (t - 1), the last on top

-- its corners
abbrev pub Upto : (ℕ → Stream) → ℕ → Samples
Upto f t s = (i : ℕ) × (i < t) × (s ≡ f i)

-- it goes east, and turns strictly right at each corner
pub record Stacked (f : ℕ → Stream) (t : ℕ) : Type 0 where
  pub ahead : (i : ℕ) → suc i < t → (f i).east <ℤ (f (suc i)).east
  pub bend : (i : ℕ) → suc (suc i) < t → side (f i) (f (suc i)) (f (suc (suc i))) <ℤ pos 0

-- the topmost corner stays when s comes: s is further east than the only corner, or the way on from the two topmost to s turns strictly right
unfoldable pub stays : (ℕ → Stream) → ℕ → Stream → Bool
stays f zero s = true
stays f (suc zero) s = lt_z (f 0).east s.east
stays f (suc (suc i)) s = lt_z (side (f i) (f (suc i)) s) (pos 0)

-- counted from the top
pub stays-one : (f : ℕ → Stream) (t : ℕ) (s : Stream) → t ≡ 1 → stays f t s ≡ lt_z (f (t - 1)).east s.east
unfolding stays
stays-one f t s e = rw e

pub stays_more : (f : ℕ → Stream) (t : ℕ) (s : Stream) → 1 < t → stays f t s ≡ lt_z (side (f (t - 2)) (f (t - 1)) s) (pos 0)
unfolding stays
stays_more f zero s h = absurd (omega arith)
stays_more f (suc zero) s h = absurd (omega arith)
stays_more f (suc (suc i)) s h =
    let p : i ≡ suc (suc i) - 2 = omega arith in
    let q : suc i ≡ suc (suc i) - 1 = omega arith in
    ap₂ (λ (j k : ℕ). lt_z (side (f j) (f k) s) (pos 0)) p q

pub stays_some : (f : ℕ → Stream) (t : ℕ) (s : Stream) → stays f t s ≡ false → 0 < t
unfolding stays
stays_some f zero s e = absurd (true≢false e)
stays_some f (suc t) s e = omega arith

pub stacked_less : {f : ℕ → Stream} {t r : ℕ} → r ≤ t → Stacked f t → Stacked f r
stacked_less h st = record { ahead = λ i l. st.ahead i (omega arith); bend = λ i l. st.bend i (omega arith) }

pub stacked_east : {f : ℕ → Stream} {t : ℕ} → Stacked f t → {i : ℕ} (j : ℕ) → i < j → j < t → (f i).east <ℤ (f j).east
stacked_east {f} {t} st {i} = le_ind (λ j. j < t → (f i).east <ℤ (f j).east) (λ l. st.ahead i l)
    (λ j h r l. <ℤ_trans (r (omega arith)) (st.ahead j l))

-- if s is further east than the topmost corner or straight above it, it is so for all
pub before_all : {f : ℕ → Stream} {s : Stream} (t : ℕ) → Stacked f t → Before (f (t - 1)) s → (i : ℕ) → i < t → Before (f i) s
before_all {f} {s} t st h i l = ⊎_elim (λ q. subst (λ (j : ℕ). Before (f j) s) (sym q) h) (λ m. inl (<ℤ-≤ℤ_trans (stacked_east st (t - 1) m (omega arith)) (before_east h)))
    (eq-or-lt_of_le {n = i} {m = t - 1} (omega arith))

module _ {f : ℕ → Stream} {s : Stream} where
  -- a corner that does not stay is under those below it and s
  goes_under : (t : ℕ) → Stacked f (suc t) → Before (f t) s → stays f (suc t) s ≡ false → Under (With (Upto f t) s) (f t)
  unfolding stays
  goes_under zero st (inl h) e = clash_ℤ h (test_nlt (f 0).east s.east e)
  goes_under zero st (inr h) e = under-at-east (inr refl) h.0 (<ℤ→≤ℤ h.1)
  goes_under (suc i) st h e =
      under-between (f i) s (f (suc i)) (inl (i, (omega arith), refl)) (inr refl) ps (<ℤ→≤ℤ pq) (before_east h) below
    where
      pq : (f i).east <ℤ (f (suc i)).east
      pq = st.ahead i (omega arith)

      ps : (f i).east <ℤ s.east
      ps = <ℤ-≤ℤ_trans pq (before_east h)

      below : side (f i) s (f (suc i)) ≤ℤ pos 0
      below =
          let n = test_nlt (side (f i) (f (suc i)) s) (pos 0) e in
          let c = side_crossed (f i) (f (suc i)) s in
          omega (order, negation (side (f i) (f (suc i)) s))

  -- when it goes, what was under the stack and s is under the rest and s
  goes : {x : Stream} (t : ℕ) → Stacked f (suc t) → Before (f t) s → stays f (suc t) s ≡ false → Under (With (Upto f (suc t)) s) x
      → Under (With (Upto f t) s) x
  goes t st h e u = on_trans (λ y. ⊎_elim (λ m. ⊎_elim (λ l. on_self (inl (m.0, l, m.2))) (λ q. top y (m.2 ∙ ap f q)) (below_or_last m.1))
      (λ q. on_self (inr q))) u
    where
      top : (y : Stream) → y ≡ f t → Under (With (Upto f t) s) y
      top y q = subst (Under (With (Upto f t) s)) (sym q) (goes_under t st h e)

  pub one_fewer : {x : Stream} (t : ℕ) → Stacked f t → ((i : ℕ) → i < t → Before (f i) s) → stays f t s ≡ false → Under (With (Upto f t) s) x
      → Under (With (Upto f (t - 1)) s) x
  unfolding stays
  one_fewer zero st h e u = absurd (true≢false e)
  one_fewer (suc t) st h e u =
      let q : suc t - 1 ≡ t = omega arith in
      rw q (goes t st (h t (omega arith)) e u)

  -- one that stays is west of s
  stays_west : (t : ℕ) → Stacked f (suc t) → Before (f t) s → stays f (suc t) s ≡ true → (f t).east <ℤ s.east
  unfolding stays
  stays_west t st (inl h) e = h
  stays_west zero st (inr h) e = test-lt (f 0).east s.east e
  stays_west (suc i) st (inr h) e =
      clash_ℤ h.1 (below-at-second (f i) (f (suc i)) s (st.ahead i (omega arith)) (sym h.0) (<ℤ→≤ℤ (test-lt (side (f i) (f (suc i)) s) (pos 0) e)))

  -- s on top of those that stay
  pub put_on : {g : ℕ → Stream} (t : ℕ) → Stacked f t → ((i : ℕ) → i < t → Before (f i) s) → stays f t s ≡ true → ((i : ℕ) → i < t → g i ≡ f i)
      → g t ≡ s → Stacked g (suc t)
  unfolding stays
  put_on {g} t st h e same new = record { ahead = λ i l. go i (below_or_last l); bend = λ i l. turn i (below_or_last l) }
    where
      stays_at : {k : ℕ} → k ≡ t → stays f k s ≡ true
      stays_at q = subst (λ (k : ℕ). stays f k s ≡ true) (sym q) e

      go : (i : ℕ) → (suc i < t) ⊎ (suc i ≡ t) → (g i).east <ℤ (g (suc i)).east
      go i (inl l) = rw (same i (omega arith), same (suc i) l) (st.ahead i l)
      go i (inr q) =
          rw (same i (omega arith), ap g q ∙ new) (stays_west i (stacked_less (omega arith) st) (h i (omega arith)) (stays_at q))

      turn : (i : ℕ) → (suc (suc i) < t) ⊎ (suc (suc i) ≡ t) → side (g i) (g (suc i)) (g (suc (suc i))) <ℤ pos 0
      turn i (inl l) = rw (same i (omega arith), same (suc i) (omega arith), same (suc (suc i)) l) (st.bend i l)
      turn i (inr q) = rw (same i (omega arith), same (suc i) (omega arith), ap g q ∙ new) (test-lt (side (f i) (f (suc i)) s) (pos 0) (stays_at q))

-- ---- the stack over the samples S that came

pub record Stack (S : Samples) (f : ℕ → Stream) (t : ℕ) : Type 0 where
  pub stacked : Stacked f t
  pub given : (i : ℕ) → i < t → S (f i)
  pub under : (x : Stream) → S x → Under (Upto f t) x

pub stack_none : {S : Samples} {f : ℕ → Stream} → ((x : Stream) → S x → ⊥) → Stack S f 0
stack_none h =
    record {
      stacked = record { ahead = λ i l. absurd (omega arith); bend = λ i l. absurd (omega arith) };
      given = λ i l. absurd (omega arith);
      under = λ x m. absurd (h x m);
    }

-- the same samples
pub stack_same : {S T : Samples} {f : ℕ → Stream} {t : ℕ} → ((x : Stream) → S x → T x) → ((x : Stream) → T x → S x) → Stack S f t → Stack T f t
stack_same {f} to from k = record { stacked = k.stacked; given = λ i l. to (f i) (k.given i l); under = λ x m. k.under x (from x m) }

-- s comes, and is at the east of the topmost corner and not above it
pub stack_skip : {S : Samples} {f : ℕ → Stream} {t i : ℕ} {s : Stream} → Stack S f t → i < t → s.east ≡ (f i).east → s.north ≤ℤ (f i).north
    → Stack (With S s) f t
stack_skip {S} {f} {t} {i} {s} k l e n =
    record { stacked = k.stacked; given = λ j h. inl (k.given j h); under = λ x. ⊎_elim (k.under x) (λ q. subst (Under (Upto f t)) (sym q) here) }
  where
    here : Under (Upto f t) s
    here = under-at-east (i, l, refl) e n

-- s comes, and is put on top of the r corners that stay
pub stack_put : {S : Samples} {f g : ℕ → Stream} {t r : ℕ} {s : Stream} → Stack S f t → r ≤ t → ((i : ℕ) → i < r → Before (f i) s)
    → stays f r s ≡ true → ((i : ℕ) → i < t → Under (With (Upto f r) s) (f i)) → ((i : ℕ) → i < r → g i ≡ f i) → g r ≡ s → Stack (With S s) g (suc r)
stack_put {S} {f} {g} {t} {r} {s} k l h e u same new =
    record { stacked = put_on r (stacked_less l k.stacked) h e same new; given = λ i p. corner i (below_or_last p); under = λ x. ⊎_elim (old x) (last x) }
  where
    corner : (i : ℕ) → (i < r) ⊎ (i ≡ r) → With S s (g i)
    corner i (inl p) = inl (subst S (sym (same i p)) (k.given i (omega arith)))
    corner i (inr q) = inr (ap g q ∙ new)

    on_stack : (x : Stream) → With (Upto f r) s x → Upto g (suc r) x
    on_stack x (inl m) = (m.0, (let p = m.1 in omega arith), m.2 ∙ sym (same m.0 m.1))
    on_stack x (inr q) = (r, (omega arith), q ∙ sym new)

    last : (x : Stream) → x ≡ s → Under (Upto g (suc r)) x
    last x q = on_self (on_stack x (inr q))

    old : (x : Stream) → S x → Under (Upto g (suc r)) x
    old x m = on_inside on_stack (on_trans (λ y n. subst (Under (With (Upto f r) s)) (sym n.2) (u n.0 n.1)) (k.under x m))

-- ---- what stays

bending : {f : ℕ → Stream} (n : ℕ) → Stacked f (suc n) → Bends (f 0) (listed (λ i. f (suc i)) n)
bending zero st = ends
bending {f} (suc n) st = bends (st.ahead 0 (omega arith)) (turn n st) (bending n (shifted st))
  where
    turn : (m : ℕ) → Stacked f (suc (suc m)) → Turn (f 0) (f 1) (listed (λ i. f (suc (suc i))) m)
    turn zero k = tt
    turn (suc m) k = k.bend 0 (omega arith)

    shifted : Stacked f (suc (suc n)) → Stacked (λ i. f (suc i)) (suc n)
    shifted k = record { ahead = λ i l. k.ahead (suc i) (omega arith); bend = λ i l. k.bend (suc i) (omega arith) }

-- THE LAW: the stack is the upper chain of the samples
pub stack_chain : {S : Samples} {f : ℕ → Stream} (t : ℕ) → Stack S f t → UpperChain S (listed f t)
stack_chain zero k = empty (λ x m. let u = (k.under x m).stronger (pos 0) (pos 0) (≤ℤ_refl (pos 0)) in absurd (none u.1.1))
  where
    none : {i : ℕ} → i < zero → ⊥
    none l = omega arith
stack_chain {S} {f} (suc n) k =
    same_outline (λ x m. let c = listed_in f (suc n) m in subst S (sym c.2) (k.given c.0 c.1))
    (λ x m. on_inside (λ y u. in_listed f (suc n) u.1 u.2) (k.under x m))
    (bending_chain (bending n k.stacked))
