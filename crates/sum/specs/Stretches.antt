-- Two stretches of rings that the code follows together, and where it stands on them.
-- Assumes nothing.
use Rattle.std.specs.Prelude.{◌≡◌, true, false, List, ℕ, suc, ◌+◌, ◌-◌, ◌≤◌, ◌<◌, ℤ, ◌<ℤ◌, length}
use Rattle.std.proofs.Common.{sym, ap₂, ◌∙◌, subst, arith}
use Rattle.std.proofs.Math.Path.{ap}
use Rattle.std.proofs.Math.Numerals.{add-one}
use Rattle.std.proofs.Math.IntN.{pos}
use Rattle.std.specs.Int.Signed.{lt_z}
use Rattle.rules.specs.Streams.{Stream, streams, sample, most}
use Rattle.rules.specs.Use.{added}
use Rattle.laws_halves.specs.Stretch.{stretch, stretch-count, stretch-at}
use Rattle.whole.specs.Laws.{≤ℤ_antisym, test-lt, test_nlt}
use Rattle.laws_sums.specs.Ways.{bend}
use Rattle.laws_sums.specs.Merge.{merge, merge-count, merge-ends}
use Rattle.laws_sums.specs.MergePlaces.{bend_at, Next, next_first, next_second, next_less, next_steeper, next_level, Stands, stands_first, stands_next, stands_last}
use Rattle.samples.specs.Positions.{Near, Sampled}
use Rattle.samples.specs.Samples.{read_near}
use Rattle.sum.specs.declared.follow.Stretch.{Stretch}

-- a stretch of a ring within the limit
pub record On (es ns : List ℤ) (a : Stretch) : Type 0 where
  pub sampled : Sampled es ns
  pub some : 0 < length es
  pub within : a.from + a.sides ≤ length es

-- one of each ring
pub record Both (es ns fs ms : List ℤ) (a b : Stretch) : Type 0 where
  pub first : On es ns a
  pub second : On fs ms b
  pub few : length es + length fs ≤ most

-- a place of each
pub record Pair (a b : Stretch) (i j : ℕ) : Type 0 where
  pub first_in : i ≤ a.sides
  pub second_in : j ≤ b.sides

-- its corners
abbrev pub stretch_of : List ℤ → List ℤ → Stretch → List Stream
stretch_of es ns a = stretch (streams es ns) a.from a.sides

-- the corners of both merged
abbrev pub merged : List ℤ → List ℤ → List ℤ → List ℤ → Stretch → Stretch → List Stream
merged es ns fs ms a b = merge (stretch_of es ns a) (stretch_of fs ms b)

-- the last of some corners
abbrev pub last_corner : List Stream → Stream
last_corner M = sample M (length M - 1)

-- every corner of a stretch is within the limit
pub along_near : {es ns : List ℤ} {a : Stretch} → On es ns a → (i : ℕ) → i ≤ a.sides → {s : Stream} → s ≡ sample (stretch_of es ns a) i → Near s
along_near {es} {ns} {a} o i h e = read_near o.sampled _ (e ∙ stretch-at (streams es ns) a.from a.sides i h)

-- ---- the next pair, as the code decides it

module _ (es ns fs ms : List ℤ) (a b : Stretch) (i j : ℕ) (at : Pair a b i j) where
  C : List Stream
  C = stretch_of es ns a

  D : List Stream
  D = stretch_of fs ms b

  -- how many corners there are
  first_count : length C ≡ suc a.sides
  unfolding C
  first_count = stretch-count (streams es ns) a.from a.sides

  second-count : length D ≡ suc b.sides
  unfolding D
  second-count = stretch-count (streams fs ms) b.from b.sides

  inside : (i < length C) × (j < length D)
  inside = (omega (arith, first_count, at.first_in), omega (arith, second-count, at.second_in))

  -- one stretch is over
  pub first-over : a.sides ≡ i → i + j < a.sides + b.sides → Next (stretch_of es ns a) (stretch_of fs ms b) i j i (j + 1)
  unfolding C D
  first-over e h = rw (add-one j) (next_second C D i j inside.0 (omega (arith, first_count)) (omega (arith, second-count)))

  pub second-over : (a.sides ≡ i → ⊥) → b.sides ≡ j → Next (stretch_of es ns a) (stretch_of fs ms b) i j (i + 1) j
  unfolding C D
  second-over n e = rw (add-one i) (next_first C D i j (omega (arith, first_count, at.first_in)) inside.1 (omega (arith, second-count)))

  -- neither is: the next corners of both, and how the ways to them bend
  module _ (n : a.sides ≡ i → ⊥) (m : b.sides ≡ j → ⊥) {p q u v : Stream} {z : ℤ} (pe : p ≡ sample (stretch_of es ns a) i)
      (qe : q ≡ sample (stretch_of es ns a) (i + 1)) (ue : u ≡ sample (stretch_of fs ms b) j) (ve : v ≡ sample (stretch_of fs ms b) (j + 1))
      (told : z ≡ bend p q u v) where
    bends : z ≡ bend_at C D i j
    unfolding C D
    bends = told ∙ (λ t. bend (pe t) ((qe ∙ ap (sample C) (add-one i)) t) (ue t) ((ve ∙ ap (sample D) (add-one j)) t))

    onward : (suc i < length C) × (suc j < length D)
    onward = (omega (arith, first_count, at.first_in), omega (arith, second-count, at.second_in))

    pub less : lt_z z (pos 0) ≡ true → Next (stretch_of es ns a) (stretch_of fs ms b) i j (i + 1) j
    unfolding C D
    less e = rw (add-one i) (next_less C D i j onward.0 onward.1 (subst (λ (y : ℤ). y <ℤ pos 0) bends (test-lt z (pos 0) e)))

    pub steeper : lt_z (pos 0) z ≡ true → Next (stretch_of es ns a) (stretch_of fs ms b) i j i (j + 1)
    unfolding C D
    steeper e = rw (add-one j) (next_steeper C D i j onward.0 onward.1 (subst (λ (y : ℤ). pos 0 <ℤ y) bends (test-lt (pos 0) z e)))

    pub level : lt_z z (pos 0) ≡ false → lt_z (pos 0) z ≡ false → Next (stretch_of es ns a) (stretch_of fs ms b) i j (i + 1) (j + 1)
    unfolding C D
    level e f =
        rw (add-one i, add-one j)
        (next_level C D i j onward.0 onward.1 (sym bends ∙ ≤ℤ_antisym (test_nlt (pos 0) z f) (test_nlt z (pos 0) e)))

-- ---- from pair to pair

-- where a corner stands at i and j, the next one, if there is one, stands at i' and j'
pub record Steps (C D : List Stream) (i j i' j' : ℕ) : Type 0 where
  pub on : (n : ℕ) → Stands C D n i j → suc n < length (merge C D) → Stands C D (suc n) i' j'

-- corner n, if there is one, stands at i and j
pub record Reached (C D : List Stream) (n i j : ℕ) : Type 0 where
  pub stands : n < length (merge C D) → Stands C D n i j

pub reached_next : {C D : List Stream} {n i j i' j' : ℕ} → Reached C D n i j → Steps C D i j i' j' → Reached C D (suc n) i' j'
reached_next {n = n} r s = record { stands = λ h. s.on n (r.stands (omega arith)) h }

module _ {es ns fs ms : List ℤ} {a b : Stretch} (both : Both es ns fs ms a b) where
  first_size : length (stretch_of es ns a) ≡ suc a.sides
  first_size = stretch-count (streams es ns) a.from a.sides

  second_size : length (stretch_of fs ms b) ≡ suc b.sides
  second_size = stretch-count (streams fs ms) b.from b.sides

  -- all the sides together are few
  pub few_sides : a.sides + b.sides ≤ most
  few_sides = omega (arith, both.few, both.first.within, both.second.within)

  -- and so are the corners
  pub few_corners : length (merged es ns fs ms a b) ≤ most + 2
  few_corners = omega (arith, few_sides, first_size, second_size, merge-count (stretch_of es ns a) (stretch_of fs ms b))

  -- the start
  pub starts : Stands (stretch_of es ns a) (stretch_of fs ms b) 0 0 0
  starts = stands_first (stretch_of es ns a) (stretch_of fs ms b) (omega (arith, first_size)) (omega (arith, second_size))

  pub pair-first : Pair a b 0 0
  pair-first = record { first_in = omega arith; second_in = omega arith }

  pub pair_last : Pair a b a.sides b.sides
  pair_last = record { first_in = omega arith; second_in = omega arith }

  -- the first corner and the last
  pub first-is : {s : Stream} → s ≡ added (sample (stretch_of es ns a) 0) (sample (stretch_of fs ms b) 0) → s ≡ sample (merged es ns fs ms a b) 0
  first-is e = e ∙ sym starts.corner

  pub last_is : {s : Stream} → s ≡ added (sample (stretch_of es ns a) a.sides) (sample (stretch_of fs ms b) b.sides) → s ≡ last_corner (merged es ns fs ms a b)
  last_is e =
      let p : length (stretch_of es ns a) - 1 ≡ a.sides = omega (arith, first_size) in
      let q : length (stretch_of fs ms b) - 1 ≡ b.sides = omega (arith, second_size) in
      e ∙ ap₂ (λ (i j : ℕ). added (sample (stretch_of es ns a) i) (sample (stretch_of fs ms b) j)) (sym p) (sym q)
      ∙ sym (merge-ends (stretch_of es ns a) (stretch_of fs ms b) (omega (arith, first_size)) (omega (arith, second_size))).2

  -- a step
  pub pair_next : {i j i' j' : ℕ} → Next (stretch_of es ns a) (stretch_of fs ms b) i j i' j' → Pair a b i' j'
  pair_next t = record { first_in = omega (arith, t.first_in, first_size); second_in = omega (arith, t.second_in, second_size) }

  pub next_steps : {i j i' j' : ℕ} → Next (stretch_of es ns a) (stretch_of fs ms b) i j i' j' → Steps (stretch_of es ns a) (stretch_of fs ms b) i j i' j'
  next_steps t = record { on = λ n s h. stands_next s t }

  -- the end
  module _ {i j : ℕ} (at : Pair a b i j) (over : a.sides + b.sides ≤ i + j) where
    pub ends : {n : ℕ} → Stands (stretch_of es ns a) (stretch_of fs ms b) n i j → length (merged es ns fs ms a b) ≡ suc n
    ends s =
        stands_last s (omega (arith, first_size, at.first_in, at.second_in)) (omega (arith, second_size, at.first_in, at.second_in))

    pub end-steps : Steps (stretch_of es ns a) (stretch_of fs ms b) i j i j
    end-steps = record { on = λ n s l. absurd (omega (arith, ends s)) }
