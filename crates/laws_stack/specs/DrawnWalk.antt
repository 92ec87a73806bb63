-- Two ways walked together from west to east: the next corner of the one that is further west is drawn, and comes to the stack of those that were.
-- Assumes nothing.
use Rattle.std.specs.Prelude.{◌≡◌, ◌⊎◌, true, ℕ, suc, ◌+◌, ◌≤◌, ◌<◌, ◌≤ℤ◌}
use Rattle.std.proofs.Common.{sym, subst, subst₂, inl, inr, ⊎_elim, add-one, arith}
use Rattle.std.specs.Int.Signed.{≤ℤ_refl}
use Rattle.whole.specs.Laws.{≤ℤ_trans}
use Rattle.rules.specs.Streams.{Stream}
use Rattle.rules.specs.Chain.{Samples, UpperChain}
use Rattle.laws_outline.specs.Under.{Under}
use Rattle.laws_outline.specs.SameOutline.{same_outline}
use Rattle.laws_stack.specs.Places.{below_or_last, listed}
use Rattle.laws_stack.specs.Stack.{With, Before, Upto, stays, Stack, stack_same, stack_none, stack_skip, stack_put, stack_chain}

-- ---- a corner comes to the stack

-- s comes to a stack of t corners f, and leaves one of r corners g
pub data Comes (f : ℕ → Stream) (t : ℕ) (s : Stream) : (ℕ → Stream) → ℕ → Type 0 where
  -- it is at the east of a corner and not above it
  skips : (i : ℕ) → i < t → s.east ≡ (f i).east → s.north ≤ℤ (f i).north → Comes f t s f t
  -- it is put on top of the r corners that stay
  tops : {g : ℕ → Stream} {r : ℕ} → r ≤ t → ((i : ℕ) → i < r → Before (f i) s) → stays f r s ≡ true
      → ((i : ℕ) → i < t → Under (With (Upto f r) s) (f i)) → ((i : ℕ) → i < r → g i ≡ f i) → g r ≡ s → Comes f t s g (suc r)

stack_comes : {S : Samples} {f g : ℕ → Stream} {t r : ℕ} {s : Stream} → Stack S f t → Comes f t s g r → Stack (With S s) g r
stack_comes k (skips i l e n) = stack_skip k l e n
stack_comes k (tops l h e u same new) = stack_put k l h e u same new

-- ---- two ways, f over m corners and g over n

module _ (f : ℕ → Stream) (m : ℕ) (g : ℕ → Stream) (n : ℕ) where
  -- i corners of the one and j of the other
  abbrev pub Seen : ℕ → ℕ → Samples
  Seen i j s = Upto f i s ⊎ Upto g j s

  -- both go east
  pub record East : Type 0 where
    pub one : (i : ℕ) → suc i < m → (f i).east ≤ℤ (f (suc i)).east
    pub other : (j : ℕ) → suc j < n → (g j).east ≤ℤ (g (suc j)).east

  -- s is drawn after i and j corners, which makes i' and j'
  pub data Draws (i j : ℕ) : Stream → ℕ → ℕ → Type 0 where
    from_one : i < m → (j < n → (f i).east ≤ℤ (g j).east) → Draws i j (f i) (i + 1) j
    from_other : j < n → (i < m → (g j).east ≤ℤ (f i).east) → Draws i j (g j) i (j + 1)

  -- no corner that was seen is further east than one that is left, and the stack is over those seen
  pub record Walk (i j : ℕ) (h : ℕ → Stream) (t : ℕ) : Type 0 where
    pub inside : i ≤ m
    pub inside2 : j ≤ n
    pub west : i < m → (s : Stream) → Seen i j s → s.east ≤ℤ (f i).east
    pub west2 : j < n → (s : Stream) → Seen i j s → s.east ≤ℤ (g j).east
    pub stack : Stack (Seen i j) h t

  none : (s : Stream) → Seen 0 0 s → ⊥
  none s (inl u) = let l = u.1 in omega arith
  none s (inr u) = let l = u.1 in omega arith

  pub walk_start : {h : ℕ → Stream} → Walk 0 0 h 0
  walk_start = record {
    inside = omega arith;
    inside2 = omega arith;
    west = λ l s u. absurd (none s u);
    west2 = λ l s u. absurd (none s u);
    stack = stack_none none;
  }

  module _ {i j : ℕ} {h : ℕ → Stream} {t : ℕ} (w : Walk i j h t) where
    -- every corner on the stack is as far west as the one that is drawn
    pub walk_next : {s : Stream} {i' j' : ℕ} → Draws i j s i' j' → (k : ℕ) → k < t → (h k).east ≤ℤ s.east
    walk_next (from_one l p) k b = w.west l (h k) (w.stack.given k b)
    walk_next (from_other l p) k b = w.west2 l (h k) (w.stack.given k b)

    -- one more of the one, or of the other
    to_one : (s : Stream) → With (Seen i j) (f i) s → Seen (suc i) j s
    to_one s (inl (inl u)) = inl (u.0, (let l = u.1 in omega arith), u.2)
    to_one s (inl (inr u)) = inr u
    to_one s (inr e) = inl (i, omega arith, e)

    of_one : (s : Stream) → Seen (suc i) j s → With (Seen i j) (f i) s
    of_one s (inl (k, l, e)) = ⊎_elim (λ b. inl (inl (k, b, e))) (λ q. inr (subst (λ (x : ℕ). s ≡ f x) q e)) (below_or_last l)
    of_one s (inr u) = inl (inr u)

    to-other : (s : Stream) → With (Seen i j) (g j) s → Seen i (suc j) s
    to-other s (inl (inl u)) = inl u
    to-other s (inl (inr u)) = inr (u.0, (let l = u.1 in omega arith), u.2)
    to-other s (inr e) = inr (j, omega arith, e)

    of_other : (s : Stream) → Seen i (suc j) s → With (Seen i j) (g j) s
    of_other s (inl u) = inl (inl u)
    of_other s (inr (k, l, e)) = ⊎_elim (λ b. inl (inr (k, b, e))) (λ q. inr (subst (λ (x : ℕ). s ≡ g x) q e)) (below_or_last l)

    -- what was seen and p, no further east than q
    as_far : {p : Stream} (q : Stream) → ((s : Stream) → Seen i j s → s.east ≤ℤ q.east) → p.east ≤ℤ q.east → (s : Stream) → With (Seen i j) p s
        → s.east ≤ℤ q.east
    as_far q seen e s (inl u) = seen s u
    as_far q seen e s (inr d) = subst (λ (x : Stream). x.east ≤ℤ q.east) (sym d) e

    pub walk_on : East → {s : Stream} {i' j' : ℕ} {h' : ℕ → Stream} {t' : ℕ} → Draws i j s i' j' → Comes h t s h' t' → Walk i' j' h' t'
    walk_on o (from_one l p) c = rw (add-one i) record {
      inside = l;
      inside2 = w.inside2;
      west = λ b s u. ≤ℤ_trans (as_far (f i) (w.west l) (≤ℤ_refl (f i).east) s (of_one s u)) (o.one i b);
      west2 = λ b s u. as_far (g j) (w.west2 b) (p b) s (of_one s u);
      stack = stack_same to_one of_one (stack_comes w.stack c);
    }
    walk_on o (from_other l p) c = rw (add-one j) record {
      inside = w.inside;
      inside2 = l;
      west = λ b s u. as_far (f i) (w.west b) (p b) s (of_other s u);
      west2 = λ b s u. ≤ℤ_trans (as_far (g j) (w.west2 l) (≤ℤ_refl (g j).east) s (of_other s u)) (o.other j b);
      stack = stack_same to-other of_other (stack_comes w.stack c);
    }

    -- the chain of samples that are all under both ways
    pub walk_end : {S : Samples} → ((s : Stream) → Seen m n s → S s) → ((s : Stream) → S s → Under (Seen m n) s) → m + n ≤ i + j
        → UpperChain S (listed h t)
    walk_end given under l =
        let p : i ≡ m = let a = w.inside in let b = w.inside2 in omega arith in
        let q : j ≡ n = let a = w.inside in let b = w.inside2 in omega arith in
        same_outline given under (stack_chain t (subst₂ (λ (x y : ℕ). Stack (Seen x y) h t) p q w.stack))
