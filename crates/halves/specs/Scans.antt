-- The parts of a scan of easts: the crest, the turn and the way home. Together they are the halves of a ring.
-- Assumes nothing.
use Rattle.std.specs.Prelude.{◌≡◌, refl, ◌⊎◌, Bool, true, false, cond, not, ◌&&◌, ℕ, suc, ◌+◌, ◌-◌, ◌≤◌, ◌<◌, ltb, ℤ, ◌≤ℤ◌, ◌<ℤ◌}
use Rattle.std.proofs.Common.{sym, subst, inl, inr, add-one, arith, ltb-true, lt-ltb, le-ltb}
use Rattle.std.proofs.Math.Bool.{and-false}
use Rattle.std.proofs.Math.Decide.{dec_lt}
use Rattle.std.specs.Int.Signed.{lt_z}
use Rattle.whole.specs.Laws.{≤ℤ_antisym, <ℤ→≢, test-lt, test_nlt, eq_test, ne_test}
use Rattle.rules.specs.Streams.{eqZ}
use Rattle.laws_halves.specs.Scanned.{Scanned}

-- of m easts: they rise up to place k, and then no further
pub record Crest (E : ℕ → ℤ) (m k : ℕ) : Type 0 where
  pub inside : k < m
  pub rising : (i : ℕ) → i < k → E i <ℤ E (suc i)
  pub crest : (m ≡ suc k) ⊎ (E (suc k) ≤ℤ E k)

-- where the half that goes back starts, and where it ends
abbrev pub turn_of : (ℕ → ℤ) → ℕ → ℕ → ℕ
turn_of E m k = cond (ltb (suc k) m && eqZ (E (suc k)) (E k)) (suc k) k

abbrev pub home_of : (ℕ → ℤ) → ℕ → ℕ
home_of E m = cond (eqZ (E (m - 1)) (E 0)) (m - 1) m

-- neither of two numbers below the other
pub apart : (a b : ℤ) → lt_z a b ≡ true → false ≡ eqZ a b
apart a b e = sym (ne_test (<ℤ→≢ (test-lt a b e)))

pub level : (a b : ℤ) → lt_z a b ≡ false → not (lt_z b a) ≡ eqZ a b
level a b e = go (lt_z b a) refl
  where
    go : (t : Bool) → lt_z b a ≡ t → not t ≡ eqZ a b
    go true f = sym (ne_test (λ q. <ℤ→≢ (test-lt b a f) (sym q)))
    go false f = sym (eq_test (≤ℤ_antisym (test_nlt b a f) (test_nlt a b e)))

-- one place more
pub rising_more : (E : ℕ → ℤ) (k : ℕ) → ((i : ℕ) → i < k → E i <ℤ E (suc i)) → lt_z (E k) (E (k + 1)) ≡ true → (i : ℕ) → i < k + 1 → E i <ℤ E (suc i)
rising_more E k r e i h = go (dec_lt i k)
  where
    go : Dec (i < k) → E i <ℤ E (suc i)
    go (yes l) = r i l
    go (no l) = let q : i ≡ k = omega arith in subst (λ (n : ℕ). E n <ℤ E (suc n)) (sym q) (rw add-one at (test-lt (E k) (E (k + 1)) e))

module _ (E : ℕ → ℤ) (m k : ℕ) where
  -- ---- the crest

  pub crest_last : k < m → ((i : ℕ) → i < k → E i <ℤ E (suc i)) → m ≤ k + 1 → Crest E m k
  crest_last h r l = record { inside = h; rising = r; crest = inl (omega arith) }

  pub crest_here : k < m → ((i : ℕ) → i < k → E i <ℤ E (suc i)) → lt_z (E k) (E (k + 1)) ≡ false → Crest E m k
  crest_here h r e = record { inside = h; rising = r; crest = inr (rw add-one at (test_nlt (E k) (E (k + 1)) e)) }

  -- ---- the turn

  pub turn_below : k + 1 < m → eqZ (E (k + 1)) (E k) ≡ true → k + 1 ≡ turn_of E m k
  turn_below h e = rw (lt-ltb (suc k) m (omega arith), rw add-one at e) (add-one k)

  pub turn-here : eqZ (E (k + 1)) (E k) ≡ false → k ≡ turn_of E m k
  turn-here e = rw (rw add-one at e, and-false) refl

  pub turn_last : m ≤ k + 1 → k ≡ turn_of E m k
  turn_last h = rw (le-ltb (suc k) m (omega arith)) refl

  -- it comes no later than the way home ends
  pub turn_before : k < m → turn_of E m k ≤ home_of E m
  turn_before inside = go (ltb (suc k) m) (eqZ (E (suc k)) (E k)) (eqZ (E (m - 1)) (E 0)) (ltb-true (suc k) m)
    where
      go : (a b c : Bool) → (a ≡ true → suc k < m) → cond (a && b) (suc k) k ≤ cond c (m - 1) m
      go true true true h = omega (arith, h refl)
      go true true false h = omega (arith, h refl)
      go true false true h = omega arith
      go true false false h = omega arith
      go false b true h = omega arith
      go false b false h = omega arith

-- what the three find together
pub scanned : {E : ℕ → ℤ} {m k c n : ℕ} → Crest E m k → c ≡ turn_of E m k → c + n ≡ home_of E m → Scanned E m k c n
scanned s e h = record { inside = s.inside; rising = s.rising; crest = s.crest; second = e; last = h }
