-- A merge by places: what is left of it at a place of each chain, the next pair of places, and where a corner of the merge stands. A walk that goes from
-- pair to pair meets every corner of the merge once. Assumes nothing.
use Rattle.std.specs.Prelude.{◌≡◌, List, [], ◌∷◌, ℕ, suc, ◌+◌, ◌≤◌, ◌<◌, ℤ, pos, ◌<ℤ◌, length, drop, get_or}
use Rattle.std.proofs.Math.Path.{refl}
use Rattle.std.proofs.Common.{sym, ap, ◌∙◌, arith, drop_of_length-le, length-drop, drop-cons}
use Rattle.whole.specs.Laws.{≤ℤ_of-≡, <ℤ→≤ℤ, lt_test, nlt_test}
use Rattle.rules.specs.Streams.{Stream, stream, sample}
use Rattle.rules.specs.Use.{added}
use Rattle.laws_sums.specs.Ways.{bend}
use Rattle.laws_sums.specs.Merge.{by_bend, merge_on, merge}

-- the corners after place i
abbrev pub after : List Stream → ℕ → List Stream
after C i = drop (suc i) C

after_more : (C : List Stream) (i : ℕ) → suc i < length C → after C i ≡ sample C (suc i) ∷ after C (suc i)
after_more C i h = drop-cons C (suc i) (stream (pos 0) (pos 0)) h

after_none : (C : List Stream) (i : ℕ) → length C ≤ suc i → after C i ≡ []
after_none C i h = drop_of_length-le C h

-- what follows the sum of the corners at places i and j
abbrev pub left : List Stream → List Stream → ℕ → ℕ → List Stream
left C D i j = merge_on (sample C i) (after C i) (sample D j) (after D j)

-- how the second chain's next edge bends from the first's
abbrev pub bend_at : List Stream → List Stream → ℕ → ℕ → ℤ
bend_at C D i j = bend (sample C i) (sample C (suc i)) (sample D j) (sample D (suc j))

-- ---- the next pair of places

-- i' and j' come after i and j
pub record Next (C D : List Stream) (i j i' j' : ℕ) : Type 0 where
  pub first_in : i' < length C
  pub second_in : j' < length D
  pub further : i + j < i' + j'
  pub left_on : left C D i j ≡ added (sample C i') (sample D j') ∷ left C D i' j'

module _ (C D : List Stream) (i j : ℕ) where
  -- nothing is left at the last places
  pub left_none : length C ≤ suc i → length D ≤ suc j → left C D i j ≡ []
  left_none h k = rw (after_none C i h, after_none D j k) refl

  -- the other chain has come to its end
  pub next_first : suc i < length C → j < length D → length D ≤ suc j → Next C D i j (suc i) j
  next_first h l k = record {
    first_in = h;
    second_in = l;
    further = omega arith;
    left_on = rw (after_more C i h, after_none D j k) refl;
  }

  pub next_second : i < length C → length C ≤ suc i → suc j < length D → Next C D i j i (suc j)
  next_second l k h = record {
    first_in = l;
    second_in = h;
    further = omega arith;
    left_on = rw (after_none C i k, after_more D j h) refl;
  }

  -- both go on
  module _ (h : suc i < length C) (k : suc j < length D) where
    p : Stream
    p = sample C i

    q : Stream
    q = sample C (suc i)

    u : Stream
    u = sample D j

    v : Stream
    v = sample D (suc j)

    open_left : left C D i j
        ≡ by_bend (bend_at C D i j) (added q u ∷ left C D (suc i) j) (added p v ∷ left C D i (suc j)) (added q v ∷ left C D (suc i) (suc j))
    unfolding p q u v
    open_left = rw (after_more C i h, after_more D j k) refl

    pub next_less : bend_at C D i j <ℤ pos 0 → Next C D i j (suc i) j
    unfolding p q u v
    next_less b = record { first_in = h; second_in = omega arith; further = omega arith; left_on = open_left ∙ rw (lt_test b) refl }

    pub next_steeper : pos 0 <ℤ bend_at C D i j → Next C D i j i (suc j)
    unfolding p q u v
    next_steeper b = record {
      first_in = omega arith;
      second_in = k;
      further = omega arith;
      left_on = open_left ∙ rw (nlt_test (<ℤ→≤ℤ b), lt_test b) refl;
    }

    pub next_level : bend_at C D i j ≡ pos 0 → Next C D i j (suc i) (suc j)
    unfolding p q u v
    next_level b = record {
      first_in = h;
      second_in = k;
      further = omega arith;
      left_on = open_left ∙ rw (nlt_test (≤ℤ_of-≡ (sym b)), nlt_test (≤ℤ_of-≡ b)) refl;
    }

-- ---- where the corners of the merge stand

-- corner n of the merge is the sum of those at places i and j, and what is left there follows it
pub record Stands (C D : List Stream) (n i j : ℕ) : Type 0 where
  pub merged_in : n < length (merge C D)
  pub first_in : i < length C
  pub second_in : j < length D
  pub corner : sample (merge C D) n ≡ added (sample C i) (sample D j)
  pub follows : drop (suc n) (merge C D) ≡ left C D i j

pub stands_first : (C D : List Stream) → 0 < length C → 0 < length D → Stands C D 0 0 0
unfolding merge
stands_first [] D h k = absurd (omega arith)
stands_first (p ∷ C) [] h k = absurd (omega arith)
stands_first (p ∷ C) (u ∷ D) h k = record { merged_in = omega arith; first_in = h; second_in = k; corner = refl; follows = refl }

-- a list from a place on, if it is not over
module _ (M : List Stream) {L : List Stream} {x : Stream} (n : ℕ) (e : drop n M ≡ x ∷ L) where
  more_in : n < length M
  more_in = omega (arith, ap (length {A = Stream}) e, length-drop n M)

  opened : sample M n ∷ drop (suc n) M ≡ x ∷ L
  opened = sym (drop-cons M n (stream (pos 0) (pos 0)) more_in) ∙ e

  more_at : sample M n ≡ x
  more_at = ap (λ (l : List Stream). get_or l 0 (stream (pos 0) (pos 0))) opened

  more_rest : drop (suc n) M ≡ L
  more_rest = ap (drop 1) opened

pub stands_next : {C D : List Stream} {n i j i' j' : ℕ} → Stands C D n i j → Next C D i j i' j' → Stands C D (suc n) i' j'
stands_next {C} {D} {n} s t = record {
  merged_in = more_in (merge C D) (suc n) (s.follows ∙ t.left_on);
  first_in = t.first_in;
  second_in = t.second_in;
  corner = more_at (merge C D) (suc n) (s.follows ∙ t.left_on);
  follows = more_rest (merge C D) (suc n) (s.follows ∙ t.left_on);
}

-- at the last places the merge is over
pub stands_last : {C D : List Stream} {n i j : ℕ} → Stands C D n i j → length C ≤ suc i → length D ≤ suc j → length (merge C D) ≡ suc n
stands_last {C} {D} {n} {i} {j} s h k =
    omega (arith, s.merged_in, ap (length {A = Stream}) (s.follows ∙ left_none C D i j h k), length-drop (suc n) (merge C D))
