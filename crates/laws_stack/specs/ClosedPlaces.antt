-- Two chains by their places close to a ring: the upper one, and the lower one back, from its right end or before it to its left end or after it.
-- Assumes nothing.
use Rattle.std.specs.Prelude.{◌≡◌, Bool, ltb, pos, length}
use Rattle.std.proofs.Math.Path.{refl, ap, ap₂}
use Rattle.std.proofs.Common.{sym, ◌∙◌, subst, arith, lt-ltb, le-ltb}
use Rattle.std.proofs.Math.Bool.{true, false, cond}
use Rattle.std.proofs.Math.Option.{Option, some}
use mathlib.Core.List.{List, ◌∷◌, ◌++◌, Memᴰ}
use Prim.Native.Nat.{ℕ, zero, suc, ◌+◌, ◌-◌, ◌≤◌, ◌<◌}
use Rattle.std.proofs.Math.Nat.{sub-zero}
use Rattle.rules.specs.Streams.{Stream, stream, sample, same, mirrored}
use Rattle.rules.specs.Chain.{Of, UpperChain, upper, lower}
use Rattle.rules.specs.Ring.{first_of, last_of, equals, leave_first, leave_last, closed, ring}
use Rattle.laws_outline.specs.ListLaws.{at_place_in, in_place}
use Rattle.laws_outline.specs.Sidedness.{mirrored-twice}
use Rattle.laws_outline.specs.Under.{Through}
use Rattle.laws_outline.specs.Chains.{upper_only}
use Rattle.laws_outline.specs.SameOutline.{lower_only, same-samples}
use Rattle.laws_stack.specs.Places.{listed, back, reverse-listed, back-listed, listed-alike, listed-both, map-listed}
use Rattle.laws_stack.specs.Stack.{Upto}

-- ---- the ends of a list by its places

first-listed : (f : ℕ → Stream) (n : ℕ) → 0 < n → first_of (listed f n) ≡ some (f 0)
first-listed f zero h = absurd (omega arith)
first-listed f (suc n) h = refl

last_after : (f : ℕ → Stream) (n : ℕ) → last_of (listed f (suc n)) ≡ some (f n)
last_after f zero = refl
last_after f (suc n) = last_after (λ i. f (suc i)) n

one_less : (n : ℕ) → n ≡ suc n - 1
one_less n = omega arith

last_listed : (f : ℕ → Stream) (n : ℕ) → 0 < n → last_of (listed f n) ≡ some (f (n - 1))
last_listed f zero h = absurd (omega arith)
last_listed f (suc n) h = last_after f n ∙ ap (λ (m : ℕ). some (f m)) (one_less n)

back-cons : (g : ℕ → Stream) (n : ℕ) → 0 < n → back g n ≡ g (n - 1) ∷ back g (n - 1)
back-cons g zero h = absurd (omega arith)
back-cons g (suc n) h = ap (λ (m : ℕ). g m ∷ back g m) (one_less n)

-- without the last of the way back, if it equals the end
leave_last_after : (end : Option Stream) (g : ℕ → Stream) (n : ℕ)
    → leave_last end (back g (suc n)) ≡ cond (equals end (g 0)) (back (λ i. g (suc i)) n) (back g (suc n))
leave_last_after end g zero = refl
leave_last_after end g (suc n) = ap (λ (l : List Stream). g (suc n) ∷ l) (leave_last_after end g n) ∙ go (equals end (g 0))
  where
    go : (b : Bool) → g (suc n) ∷ cond b (back (λ i. g (suc i)) n) (back g (suc n)) ≡ cond b (back (λ i. g (suc i)) (suc n)) (back g (suc (suc n)))
    go true = refl
    go false = refl

leave_last_back : (end : Option Stream) (g : ℕ → Stream) (n : ℕ) → 0 < n
    → leave_last end (back g n) ≡ cond (equals end (g 0)) (back (λ i. g (suc i)) (n - 1)) (back g n)
leave_last_back end g zero h = absurd (omega arith)
leave_last_back end g (suc n) h =
    leave_last_after end g n ∙ ap (λ (m : ℕ). cond (equals end (g 0)) (back (λ i. g (suc i)) m) (back g (suc n))) (one_less n)

-- ---- the upper chain f of u corners and the lower chain g of l corners, of which the places from lo to before hi are not left out

pub record Closes (f : ℕ → Stream) (u : ℕ) (g : ℕ → Stream) (l lo hi : ℕ) : Type 0 where
  pub low : lo ≤ hi
  pub high : hi ≤ l
  pub corners : closed (listed f u) (listed g l) ≡ listed f u ++ listed (λ i. g (hi - suc i)) (hi - lo)

-- the test of the right end leaves n corners of the lower chain
abbrev pub Right : (ℕ → Stream) → ℕ → (ℕ → Stream) → ℕ → ℕ → Type 0
Right f u g l n = n ≡ cond (same (f (u - 1)) (g (l - 1))) (l - 1) l

-- no lower chain
pub closes_none : {f : ℕ → Stream} {u : ℕ} {g : ℕ → Stream} → Closes f u g 0 0 0
unfolding closed
closes_none = record { low = omega arith; high = omega arith; corners = refl }

module _ (f : ℕ → Stream) (u : ℕ) (g : ℕ → Stream) (l : ℕ) (Some_Upper : 0 < u) (some_lower : 0 < l) where
  -- the way back over n corners, without the last of them if that is the left end
  home : ℕ → List Stream
  home n = leave_last (some (f 0)) (back g n)

  closed_right : {n : ℕ} → Right f u g l n → closed (listed f u) (listed g l) ≡ listed f u ++ home n
  unfolding closed home
  closed_right {n} q =
      ap₂ (λ (e : Option Stream) (R : List Stream). listed f u ++ leave_last e (leave_first (last_of (listed f u)) R)) (first-listed f u Some_Upper)
      (reverse-listed g l ∙ back-cons g l some_lower)
      ∙ ap (λ (e : Option Stream). listed f u ++ leave_last (some (f 0)) (leave_first e (g (l - 1) ∷ back g (l - 1)))) (last_listed f u Some_Upper)
      ∙ go (same (f (u - 1)) (g (l - 1)))
      ∙ ap (λ (m : ℕ). listed f u ++ home m) (sym q)
    where
      go : (b : Bool) → listed f u ++ leave_last (some (f 0)) (cond b (back g (l - 1)) (g (l - 1) ∷ back g (l - 1))) ≡ listed f u ++ home (cond b (l - 1) l)
      go true = refl
      go false = ap (λ (R : List Stream). listed f u ++ leave_last (some (f 0)) R) (sym (back-cons g l some_lower))

  right_high : {n : ℕ} → Right f u g l n → n ≤ l
  right_high {n} q = go (same (f (u - 1)) (g (l - 1))) q
    where
      go : (b : Bool) → n ≡ cond b (l - 1) l → n ≤ l
      go true e = omega arith
      go false e = omega arith

  -- nothing is left
  pub closes-all : {n : ℕ} → Right f u g l n → n ≡ 0 → Closes f u g l 0 0
  unfolding home
  closes-all q e = record { low = omega arith; high = omega arith; corners = closed_right (sym e ∙ q) }

  -- the left end is left out, or not
  pub closes-left : {n : ℕ} → Right f u g l n → 0 < n → same (f 0) (g 0) ≡ true → Closes f u g l 1 n
  unfolding home
  closes-left {n} q h e = record {
    low = h;
    high = right_high q;
    corners =
        closed_right q
        ∙ ap (λ (R : List Stream). listed f u ++ R) (leave_last_back (some (f 0)) g n h ∙ ap (λ (b : Bool). cond b (back (λ i. g (suc i)) (n - 1)) (back g n)) e
        ∙ back-listed (λ i. g (suc i)) (n - 1) ∙ listed-alike (λ i. g (suc (n - 1 - suc i))) (λ i. g (n - suc i)) (n - 1) (λ i l. ap g (omega arith)));
  }

  pub closes_open : {n : ℕ} → Right f u g l n → 0 < n → same (f 0) (g 0) ≡ false → Closes f u g l 0 n
  unfolding home
  closes_open {n} q h e = record {
    low = omega arith;
    high = right_high q;
    corners =
        closed_right q
        ∙ ap (λ (R : List Stream). listed f u ++ R) (leave_last_back (some (f 0)) g n h ∙ ap (λ (b : Bool). cond b (back (λ i. g (suc i)) (n - 1)) (back g n)) e
        ∙ back-listed g n ∙ ap (listed (λ i. g (n - suc i))) (sym (sub-zero n)));
  }

-- ---- the ring by its places

-- corner i: on the upper chain, or on the way back
abbrev pub ring_at : (ℕ → Stream) → ℕ → (ℕ → Stream) → ℕ → ℕ → Stream
ring_at f u g hi i = cond (ltb i u) (f i) (g (hi - suc (i - u)))

pub closes-ring : {f : ℕ → Stream} {u : ℕ} {g : ℕ → Stream} {l lo hi : ℕ} → Closes f u g l lo hi
    → closed (listed f u) (listed g l) ≡ listed (ring_at f u g hi) (u + (hi - lo))
closes-ring {f} {u} {g} {lo} {hi} c =
    c.corners
    ∙ ap₂ ◌++◌ (listed-alike f (ring_at f u g hi) u (λ i h. rw (lt-ltb i u h)))
    (listed-alike (λ i. g (hi - suc i)) (λ i. ring_at f u g hi (u + i)) (hi - lo) (λ i h. rw (le-ltb (u + i) u (omega arith)) (ap g (omega arith))))
    ∙ sym (listed-both (ring_at f u g hi) u (hi - lo))

-- ---- the two chains of the samples xs, by their places, close to the ring of xs

module _ (xs : List Stream) where
  sample_in : {s : Stream} → Memᴰ s xs → Upto (sample xs) (length xs) s
  sample_in m = in_place xs (stream (pos 0) (pos 0)) m

  in_sample : {s : Stream} → Upto (sample xs) (length xs) s → Memᴰ s xs
  in_sample (j, l, e) = subst (λ (t : Stream). Memᴰ t xs) (sym e) (at_place_in xs j (stream (pos 0) (pos 0)) l)

  chain-above : {C : List Stream} → UpperChain (Upto (sample xs) (length xs)) C → upper xs ≡ C
  chain-above h = upper_only (same-samples (λ s a. in_sample a) (λ s m. sample_in m) h)

  chain-below : (g : ℕ → Stream) (l : ℕ) → UpperChain (Upto (λ k. mirrored (sample xs k)) (length xs)) (listed (λ i. mirrored (g i)) l) → lower xs ≡ listed g l
  chain-below g l h =
      lower_only (same-samples to from h) ∙ map-listed mirrored (λ i. mirrored (g i)) l
      ∙ listed-alike (λ i. mirrored (mirrored (g i))) g l (λ i p. mirrored-twice (g i))
    where
      to : (s : Stream) → Upto (λ k. mirrored (sample xs k)) (length xs) s → Through mirrored (Of xs) s
      to s a = in_sample (a.0, a.1, ap mirrored a.2 ∙ mirrored-twice (sample xs a.0))

      from : (s : Stream) → Through mirrored (Of xs) s → Upto (λ k. mirrored (sample xs k)) (length xs) s
      from s m = let a = sample_in m in (a.0, a.1, sym (mirrored-twice s) ∙ ap mirrored a.2)

  pub chains_ring : (f : ℕ → Stream) (u : ℕ) (g : ℕ → Stream) (l : ℕ) → UpperChain (Upto (sample xs) (length xs)) (listed f u)
      → UpperChain (Upto (λ k. mirrored (sample xs k)) (length xs)) (listed (λ i. mirrored (g i)) l) → ring xs ≡ closed (listed f u) (listed g l)
  unfolding ring
  chains_ring f u g l a b = ap₂ closed (chain-above a) (chain-below g l b)
