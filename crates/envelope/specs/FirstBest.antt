-- The first place of the best, for any test of what beats what: one pass keeps the place of the best so far. Assumes nothing.
use Rattle.std.specs.Prelude.{◌≡◌, ◌⊎◌, Bool, true, false, ℕ, ◌+◌, ◌<◌, ℤ, pos, ◌≤ℤ◌, ◌<ℤ◌, length}
use Rattle.std.proofs.Common.{sym, ◌∙◌, subst, inl, inr, ⊎_elim, arith, below_more}
use mathlib.Core.List.{List, Memᴰ}
use Rattle.std.specs.Int.Signed.{lt_z, <ℤ-≤ℤ_trans}
use Rattle.whole.specs.Linear.{order}
use Rattle.whole.specs.Laws.{≤ℤ_of-≡, ≤ℤ_split, <ℤ→≤ℤ, ≤ℤ-<ℤ_trans, test-lt, test_nlt, lt_test, nlt_test}
use Rattle.rules.specs.Streams.{Stream, stream, sample}
use Rattle.rules.specs.Chain.{leftmost}
use Rattle.rules.specs.Use.{set_on}
use Rattle.laws_outline.specs.ListLaws.{in_place, not-both, is_no}
use Rattle.laws_outline.specs.TwoKeys.{two_keys_yes, two_keys_no, yes_first_key, yes_second_key}

-- a test of what beats what: no two beat each other, and what beats one of two beats the other, or that one beats it
pub record Orders (beats : Stream → Stream → Bool) : Type 0 where
  pub not-both : (s t : Stream) → beats s t ≡ true → beats t s ≡ false
  pub either : (s t u : Stream) → beats s u ≡ true → beats t u ≡ false → beats s t ≡ true

-- of the streams before place i none beats that of the place r, and those before r it beats
pub record First (beats : Stream → Stream → Bool) (xs : List Stream) (i r : ℕ) : Type 0 where
  pub here : r < i
  pub unbeaten : (k : ℕ) → k < i → beats (sample xs k) (sample xs r) ≡ false
  pub before : (k : ℕ) → k < r → beats (sample xs r) (sample xs k) ≡ true

module _ {beats : Stream → Stream → Bool} (orders : Orders beats) where
  not_itself : (s : Stream) → beats s s ≡ false
  not_itself s = is_no (beats s s) (λ e. not-both e (orders.not-both s s e))

  module _ (xs : List Stream) where
    pub first_one : First beats xs 1 0
    first_one =
        record {
          here = omega arith;
          unbeaten = λ k h. subst (λ (i : ℕ). beats (sample xs i) (sample xs 0) ≡ false) (only k h) (not_itself (sample xs 0));
          before = λ k h. absurd (omega arith);
        }
      where
        only : (k : ℕ) → k < 1 → 0 ≡ k
        only k h = omega arith

    module _ {i r : ℕ} (f : First beats xs i r) where
      -- the next one beats the best so far, and so all before it
      pub first_taken : beats (sample xs i) (sample xs r) ≡ true → First beats xs (i + 1) i
      first_taken e =
          record {
            here = omega arith;
            unbeaten = below_more _ i (λ k h. orders.not-both (sample xs i) (sample xs k) (all k h)) (not_itself (sample xs i));
            before = all;
          }
        where
          all : (k : ℕ) → k < i → beats (sample xs i) (sample xs k) ≡ true
          all k h = orders.either (sample xs i) (sample xs k) (sample xs r) e (f.unbeaten k h)

      pub first-left : beats (sample xs i) (sample xs r) ≡ false → First beats xs (i + 1) r
      first-left e = record { here = omega (arith, f.here); unbeaten = below_more _ i f.unbeaten e; before = f.before }

      -- those before it stand elsewhere
      pub first-apart : (k : ℕ) → k < r → sample xs r ≡ sample xs k → ⊥
      first-apart k h e =
          not-both (subst (λ (t : Stream). beats (sample xs r) t ≡ true) (sym e) (f.before k h)) (not_itself (sample xs r))

-- at the end no stream of the list beats it
pub first_unbeaten : {beats : Stream → Stream → Bool} {xs : List Stream} {r : ℕ} → First beats xs (length xs) r → {s : Stream} →
    Memᴰ s xs → beats s (sample xs r) ≡ false
first_unbeaten {beats} {xs} {r} f m =
    let (i, h, e) = in_place xs (stream (pos 0) (pos 0)) m in
    subst (λ (t : Stream). beats t (sample xs r) ≡ false) (sym e) (f.unbeaten i h)

-- ---- the two tests

-- s sets stronger on the course (x, y) than t
abbrev pub stronger : ℤ → ℤ → Stream → Stream → Bool
stronger x y s t = lt_z (set_on x y t) (set_on x y s)

-- s is nearer the end where a ring turned about is entered: the greatest east and, among those, the least north
abbrev pub nearer_entry : Stream → Stream → Bool
nearer_entry s t = leftmost t s

pub stronger_orders : (x y : ℤ) → Orders (stronger x y)
stronger_orders x y =
    record {
      not-both = λ s t e. nlt_test (<ℤ→≤ℤ (test-lt (set_on x y t) (set_on x y s) e));
      either = λ s t u e f. lt_test (≤ℤ-<ℤ_trans (test_nlt (set_on x y u) (set_on x y t) f) (test-lt (set_on x y u) (set_on x y s) e));
    }

pub entry_orders : Orders nearer_entry
unfolding leftmost
entry_orders =
    record {
      not-both = λ s t e. is_no (leftmost s t) (λ f. clash s t (reads s t e) (reads t s f));
      either = λ s t u e f. beyond-both s t u (reads s u e) (two_keys_no u.east t.east u.east t.east t.north u.north f);
    }
  where
    Ahead : Stream → Stream → Type 0
    Ahead s t = (t.east <ℤ s.east) ⊎ ((t.east ≡ s.east) × (s.north <ℤ t.north))

    reads : (s t : Stream) → leftmost t s ≡ true → Ahead s t
    reads s t e = two_keys_yes t.east s.east t.east s.east s.north t.north e

    clash : (s t : Stream) → Ahead s t → Ahead t s → ⊥
    clash s t (inl h) (inl k) = omega order
    clash s t (inl h) (inr k) = let e = k.0 in omega order
    clash s t (inr h) (inl k) = let e = h.0 in omega order
    clash s t (inr h) (inr k) = let a = h.1 in let b = k.1 in omega order

    beyond-both : (s t u : Stream) → Ahead s u → (t.east ≤ℤ u.east) × (u.east ≡ t.east → u.north ≤ℤ t.north) → leftmost t s ≡ true
    beyond-both s t u (inl h) k = yes_first_key t.east s.east s.north t.north (≤ℤ-<ℤ_trans k.0 h)
    beyond-both s t u (inr h) k = ⊎_elim west level (≤ℤ_split k.0)
      where
        west : t.east <ℤ u.east → leftmost t s ≡ true
        west l = yes_first_key t.east s.east s.north t.north (<ℤ-≤ℤ_trans l (≤ℤ_of-≡ h.0))

        level : t.east ≡ u.east → leftmost t s ≡ true
        level e = yes_second_key t.east s.east (e ∙ h.0) (<ℤ-≤ℤ_trans h.1 (k.1 (sym e)))
