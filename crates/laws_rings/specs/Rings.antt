-- The ring of some samples: which corners it has, and that every sample is behind it. So the ring of a ring is itself, and a list is an envelope
-- exactly if it is a ring. Assumes nothing.
use Rattle.std.specs.Prelude.{◌≡◌, refl, ◌↔◌, ◌⊎◌, Bool, true, false, cond, pos}
use Rattle.std.proofs.Common.{sym, ap, ◌∙◌}
use Rattle.std.proofs.Math.Logic.{inl, inr, ⊎_elim}
use Rattle.std.proofs.lemmas.Bool.{false≢true}
use Rattle.std.proofs.Math.Option.{Option, none, some, none-ne-some, some-injective}
use mathlib.Core.List.Memᴰ
use mathlib.Core.List.{List, [], ◌∷◌, ◌++◌, reverse, Memᴰ}
use Rattle.rules.specs.Streams.{Stream}
use Rattle.rules.specs.Chain.{Of, upper, lower}
use Rattle.rules.specs.Ring.{first_of, last_of, equals, leave_first, leave_last, closed, ring}
use Rattle.rules.specs.Use.{envelope}
use Rattle.laws_outline.specs.SamePosition.{same_equal, alike_same}
use Rattle.laws_outline.specs.Under.{Behind, on_self, on_inside, behind-under, behind-over, under-over}
use Rattle.laws_outline.specs.Chains.{upper_is, upper-corners}
use Rattle.laws_outline.specs.SameOutline.{upper-under, upper_equal, lower-corners, lower-over, lower_equal, ring_equal}
use Rattle.laws_rings.specs.Reversed.{reverse_in, in_reverse}

-- ---- the corners of two chains closed: those of both. What is left out stands in the other chain

first_in : (U : List Stream) {p : Stream} → first_of U ≡ some p → Memᴰ p U
first_in [] e = absurd (none-ne-some _ e)
first_in (q ∷ U) e = Memᴰ.head (sym (some-injective _ _ e))

last_in : (U : List Stream) {p : Stream} → last_of U ≡ some p → Memᴰ p U
last_in [] e = absurd (none-ne-some _ e)
last_in (q ∷ []) e = Memᴰ.head (sym (some-injective _ _ e))
last_in (q ∷ r ∷ U) e = Memᴰ.tail (last_in (r ∷ U) e)

equals-end : (end : Option Stream) (q : Stream) → equals end q ≡ true → end ≡ some q
equals-end none q e = absurd (false≢true e)
equals-end (some p) q e = ap {B = Option Stream} some (same_equal p q e)

module _ (end : Option Stream) {p : Stream} where
  leave_first_in : (R : List Stream) → Memᴰ p (leave_first end R) → Memᴰ p R
  leave_first_in [] m = m
  leave_first_in (q ∷ R) m = go (equals end q) m
    where
      go : (b : Bool) → Memᴰ p (cond b R (q ∷ R)) → Memᴰ p (q ∷ R)
      go true m = Memᴰ.tail m
      go false m = m

  leave_last_in : (R : List Stream) → Memᴰ p (leave_last end R) → Memᴰ p R
  leave_last_in [] m = m
  leave_last_in (q ∷ []) m = go (equals end q) m
    where
      go : (b : Bool) → Memᴰ p (cond b [] (q ∷ [])) → Memᴰ p (q ∷ [])
      go true m = Memᴰ.tail m
      go false m = m
  leave_last_in (q ∷ r ∷ R) m = ⊎_elim Memᴰ.head (λ n. Memᴰ.tail (leave_last_in (r ∷ R) n)) (Memᴰ.cases_cons m)

  -- a corner of the list is left in, or is the given end
  in_leave_first : (R : List Stream) → Memᴰ p R → Memᴰ p (leave_first end R) ⊎ (end ≡ some p)
  in_leave_first [] m = inl m
  in_leave_first (q ∷ R) m = go (equals end q) (equals-end end q) (Memᴰ.cases_cons m)
    where
      go : (b : Bool) → (b ≡ true → end ≡ some q) → (p ≡ q) ⊎ Memᴰ p R → Memᴰ p (cond b R (q ∷ R)) ⊎ (end ≡ some p)
      go true h (inl e) = inr (h refl ∙ ap {B = Option Stream} some (sym e))
      go true h (inr m) = inl m
      go false h (inl e) = inl (Memᴰ.head e)
      go false h (inr m) = inl (Memᴰ.tail m)

  in_leave_last : (R : List Stream) → Memᴰ p R → Memᴰ p (leave_last end R) ⊎ (end ≡ some p)
  in_leave_last [] m = inl m
  in_leave_last (q ∷ []) m = in_leave_first (q ∷ []) m
  in_leave_last (q ∷ r ∷ R) m =
      ⊎_elim (λ e. inl (Memᴰ.head e)) (λ n. ⊎_elim (λ k. inl (Memᴰ.tail k)) inr (in_leave_last (r ∷ R) n)) (Memᴰ.cases_cons m)

-- the lower chain right to left, without its right end if that is left out
abbrev back : List Stream → List Stream → List Stream
back U L = leave_first (last_of U) (reverse L)

module _ (U L : List Stream) {p : Stream} where
  pub closed_in : Memᴰ p (closed U L) → Memᴰ p U ⊎ Memᴰ p L
  unfolding closed
  closed_in m = ⊎_elim inl (λ n. inr (lower_part n)) (Memᴰ.append_cases U m)
    where
      lower_part : Memᴰ p (leave_last (first_of U) (back U L)) → Memᴰ p L
      lower_part n = reverse_in L (leave_first_in (last_of U) (reverse L) (leave_last_in (first_of U) (back U L) n))

  pub upper_in_closed : Memᴰ p U → Memᴰ p (closed U L)
  unfolding closed
  upper_in_closed m = Memᴰ.append_left (leave_last (first_of U) (back U L)) m

  pub lower_in_closed : Memᴰ p L → Memᴰ p (closed U L)
  unfolding closed
  lower_in_closed m = ⊎_elim left (λ e. upper_in_closed (last_in U e)) (in_leave_first (last_of U) (reverse L) (in_reverse m))
    where
      left : Memᴰ p (back U L) → Memᴰ p (U ++ leave_last (first_of U) (back U L))
      left n = ⊎_elim (Memᴰ.append_right U) (λ e. upper_in_closed (first_in U e)) (in_leave_last (first_of U) (back U L) n)

-- ---- the corners of a ring

module _ (xs : List Stream) {p : Stream} where
  pub upper_in_ring : Memᴰ p (upper xs) → Memᴰ p (ring xs)
  unfolding ring
  upper_in_ring m = upper_in_closed (upper xs) (lower xs) m

  pub lower_in_ring : Memᴰ p (lower xs) → Memᴰ p (ring xs)
  unfolding ring
  lower_in_ring m = lower_in_closed (upper xs) (lower xs) m

  -- the ring has the corners of both chains and no others
  pub ring-corners : Memᴰ p (ring xs) ↔ (Memᴰ p (upper xs) ⊎ Memᴰ p (lower xs))
  unfolding ring
  ring-corners =
      (closed_in (upper xs) (lower xs), ⊎_elim (upper_in_closed (upper xs) (lower xs)) (lower_in_closed (upper xs) (lower xs)))

  pub ring-sample : Memᴰ p (ring xs) → Memᴰ p xs
  ring-sample m = ⊎_elim (upper-corners (upper_is xs) p) (lower-corners xs p) (ring-corners.0 m)

-- ---- every sample is behind the ring: under its upper chain, and over its lower one

pub sample-behind : (xs : List Stream) {s : Stream} → Memᴰ s xs → Behind (Of (ring xs)) s
sample-behind xs {s} m =
    under-over (on_inside (λ t. upper_in_ring xs) (upper-under (upper_is xs) s m)) (on_inside (λ t. lower_in_ring xs) (lower-over xs s m))

-- samples have a corner
pub ring_some : (xs : List Stream) {s : Stream} → Memᴰ s xs → (p : Stream) × (ps : List Stream) × (ring xs ≡ p ∷ ps)
ring_some xs m = go (ring xs) ((sample-behind xs m).stronger (pos 0) (pos 0) tt).1
  where
    go : (r : List Stream) {t : Stream} → Memᴰ t r → (p : Stream) × (ps : List Stream) × (r ≡ p ∷ ps)
    go [] n = absurd (Memᴰ.not-nil n)
    go (p ∷ ps) n = (p, ps, refl)

-- ---- the ring of a ring

-- each of the first streams lies behind the others. Streams that lie behind each other have one ring (outline's `ring_equal`)
abbrev pub AllBehind : List Stream → List Stream → Type 0
AllBehind xs ys = (s : Stream) → Memᴰ s xs → Behind (Of ys) s

module _ (xs : List Stream) where
  pub ring-behind : AllBehind (ring xs) xs
  ring-behind s m = on_self (ring-sample xs m)

  pub behind-ring : AllBehind xs (ring xs)
  behind-ring s m = sample-behind xs m

  pub upper_of_ring : upper (ring xs) ≡ upper xs
  upper_of_ring = upper_equal (λ s m. behind-under (ring-behind s m)) (λ s m. behind-under (behind-ring s m))

  pub lower_of_ring : lower (ring xs) ≡ lower xs
  lower_of_ring = lower_equal (λ s m. behind-over (ring-behind s m)) (λ s m. behind-over (behind-ring s m))

  pub ring_of_ring : ring (ring xs) ≡ ring xs
  ring_of_ring = ring_equal ring-behind behind-ring

-- "an envelope exactly if it equals the ring of its own positions"
pub envelope-ring : (r : List Stream) → (envelope r ≡ true) ↔ (ring r ≡ r)
unfolding envelope
envelope-ring r = alike_same (ring r) r

pub ring-envelope : (xs : List Stream) → envelope (ring xs) ≡ true
ring-envelope xs = (envelope-ring (ring xs)).1 (ring_of_ring xs)
