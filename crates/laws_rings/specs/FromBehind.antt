-- Chains seen from behind: with every east negated the upper chain has the same corners, their easts negated, in reverse order. So turning about
-- makes each upper corner a lower one, both its signs changed, in reverse order, and the sample numbers that report the one chain report the other in
-- reverse. Assumes nothing.
use Rattle.std.specs.Prelude.{◌≡◌, ℤ, neg_ℤ, ◌≤ℤ◌, ◌<ℤ◌}
use Rattle.std.proofs.Math.Path.{refl}
use Rattle.std.proofs.Common.{sym, ap, ◌∙◌}
use mathlib.Core.List.Memᴰ
use mathlib.Core.List.{List, [], ◌∷◌, map, reverse, reverse_aux}
use Rattle.std.proofs.Math.IntN.{neg_ℤ-neg_ℤ}
use Rattle.whole.specs.Linear.{order, negation}
use Rattle.whole.specs.Solver.{ring, east, north, tri, ◌⊖◌, ◌⊗◌, ⊝◌}
use Rattle.rules.specs.Streams.{Stream, stream, mirrored, turned, side}
use Rattle.rules.specs.Chain.{Samples, Of, LeftEnd, RightEnd, Edge, Turn, Goes, stop, on, UpperChain, empty, starts, upper, lower, lowest, upper_numbers, lower_numbers}
use Rattle.laws_outline.specs.ListLaws.{map_in, map-twice}
use Rattle.laws_outline.specs.Chains.{upper_is, upper_only}
use Rattle.laws_outline.specs.Numbers.{numbers_through, lower-mirrored}
use Rattle.laws_rings.specs.Reversed.{map_both, map-reverse}

-- with every east negated
abbrev pub flipped : Stream → Stream
flipped p = stream (neg_ℤ p.east) p.north

pub flipped-twice : (p : Stream) → flipped (flipped p) ≡ p
flipped-twice p = ap (λ (e : ℤ). stream e p.north) (neg_ℤ-neg_ℤ p.east)

-- ---- sides seen from behind

module _ (p q r : Stream) where
  points : List ℤ
  points = p.east ∷ p.north ∷ q.east ∷ q.north ∷ r.east ∷ r.north ∷ []

  -- the way from q back to p has on its right what the way from p to q has
  pub side-behind : side (flipped q) (flipped p) r ≡ side p q (flipped r)
  unfolding side points
  side-behind =
      ring points
      ((⊝ east 0 ⊖ ⊝ east 1) ⊗ (north 2 ⊖ north 1) ⊖ (north 0 ⊖ north 1) ⊗ (east 2 ⊖ ⊝ east 1))
      ((east 1 ⊖ east 0) ⊗ (north 2 ⊖ north 0) ⊖ (north 1 ⊖ north 0) ⊗ (⊝ east 2 ⊖ east 0))
      refl

  -- and the corners turn the same way
  pub turn-behind : side (flipped r) (flipped q) (flipped p) ≡ side p q r
  unfolding side points
  turn-behind = ring points ((⊝ east 1 ⊖ ⊝ east 2) ⊗ (north 0 ⊖ north 2) ⊖ (north 1 ⊖ north 2) ⊗ (⊝ east 0 ⊖ ⊝ east 2)) (tri 0 1 2) refl

-- ---- a chain seen from behind: T has the samples of S, easts negated

level : (p s : Stream) → s.east ≡ neg_ℤ p.east → neg_ℤ s.east ≡ p.east
level p s e = omega (order, negation s.east, negation p.east)

module _ {S T : Samples} (to : (s : Stream) → S s → T (flipped s)) (back : (s : Stream) → T s → S (flipped s)) where
  left_behind : {p : Stream} → RightEnd S p → LeftEnd T (flipped p)
  left_behind {p} r =
      record {
        given = to p r.given;
        least = λ s t. least s (r.most (flipped s) (back s t));
        greatest = λ s t e. r.greatest (flipped s) (back s t) (level p s e);
      }
    where
      least : (s : Stream) → neg_ℤ s.east ≤ℤ p.east → neg_ℤ p.east ≤ℤ s.east
      least s h = omega (order, negation s.east, negation p.east)

  right_behind : {p : Stream} → LeftEnd S p → RightEnd T (flipped p)
  right_behind {p} l =
      record {
        given = to p l.given;
        most = λ s t. most s (l.least (flipped s) (back s t));
        greatest = λ s t e. l.greatest (flipped s) (back s t) (level p s e);
      }
    where
      most : (s : Stream) → p.east ≤ℤ neg_ℤ s.east → s.east ≤ℤ neg_ℤ p.east
      most s h = omega (order, negation s.east, negation p.east)

  edge-behind : {p q : Stream} → Edge S p q → Edge T (flipped q) (flipped p)
  edge-behind {p} {q} e =
      record {
        from = to q e.to;
        to = to p e.from;
        ahead = ahead e.ahead;
        below = λ s t. rw (side-behind p q s) (e.below (flipped s) (back s t));
      }
    where
      ahead : p.east <ℤ q.east → neg_ℤ q.east <ℤ neg_ℤ p.east
      ahead h = omega (order, negation p.east, negation q.east)

  -- from p the chain goes on over C, and from p seen from behind over A: what comes from C's first corner turns right at p
  abbrev Meets : Stream → List Stream → List Stream → Type 0
  Meets p A [] = Unit {0}
  Meets p A (q ∷ C) = Turn (flipped q) (flipped p) A

  meets : (p q : Stream) (A C : List Stream) → Turn p q C → Meets q (flipped p ∷ A) C
  meets p q A [] t = tt
  meets p q A (r ∷ C) t = rw (turn-behind p q r) t

  goes_behind : {p : Stream} {C : List Stream} (A : List Stream) → Goes S p C → Goes T (flipped p) A → Meets p A C →
      UpperChain T (reverse_aux (map flipped C) (flipped p ∷ A))
  goes_behind A (stop r) g m = starts (left_behind r) g
  goes_behind A (on {p} {q} {C} e t h) g m = goes_behind (flipped p ∷ A) h (on (edge-behind e) m g) (meets p q A C t)

  pub chain-behind : {C : List Stream} → UpperChain S C → UpperChain T (reverse (map flipped C))
  chain-behind (empty f) = empty (λ s t. f (flipped s) (back s t))
  chain-behind (starts {p} {C} l g) = goes_behind [] g (stop (right_behind l)) (first C)
    where
      first : (C : List Stream) → Meets p [] C
      first [] = tt
      first (q ∷ C) = tt

-- ---- the laws, for the samples of a list

pub upper-flipped : (xs : List Stream) → upper (map flipped xs) ≡ reverse (map flipped (upper xs))
upper-flipped xs = upper_only (chain-behind {S = Of xs} (λ s m. Memᴰ.map flipped m) (λ s m. map_in flipped flipped-twice xs m) (upper_is xs))

-- turned about and mirrored, in either order, is flipped
both_ways : (p : Stream) → turned (mirrored p) ≡ flipped p
both_ways p = ap (λ (n : ℤ). stream (neg_ℤ p.east) n) (neg_ℤ-neg_ℤ p.north)

-- each upper corner becomes a lower one, both its signs changed, in reverse order
pub upper-turned : (xs : List Stream) → upper (map turned xs) ≡ reverse (map turned (lower xs))
unfolding lower
upper-turned xs =
    ap upper (sym (map_both mirrored flipped turned (λ p. refl) xs)) ∙
    upper-flipped (map mirrored xs) ∙
    ap reverse (sym (map_both mirrored turned flipped both_ways (upper (map mirrored xs))))

pub lower-turned : (xs : List Stream) → lower (map turned xs) ≡ reverse (map turned (upper xs))
unfolding lower
lower-turned xs =
    ap (λ (l : List Stream). map mirrored (upper l)) (map_both turned mirrored flipped both_ways xs) ∙
    ap (map mirrored) (upper-flipped xs) ∙
    map-reverse mirrored (map flipped (upper xs)) ∙
    ap reverse (map_both flipped mirrored turned (λ p. refl) (upper xs))

-- ---- the numbers that report the chains

pub numbers-flipped : (xs : List Stream) → upper_numbers (map flipped xs) ≡ reverse (upper_numbers xs)
unfolding upper_numbers
numbers-flipped xs =
    ap (map (lowest (map flipped xs))) (upper-flipped xs)
    ∙ map-reverse (lowest (map flipped xs)) (map flipped (upper xs))
    ∙ ap reverse (numbers_through flipped flipped-twice (map flipped xs) (upper xs)
    ∙ ap (λ (ys : List Stream). map (lowest ys) (upper xs)) (map-twice flipped flipped-twice xs))

-- of the samples turned about, the upper chain is reported by the lower chain's numbers in reverse, and the lower chain by the upper chain's
pub upper-numbers-turned : (xs : List Stream) → upper_numbers (map turned xs) ≡ reverse (lower_numbers xs)
upper-numbers-turned xs =
    ap upper_numbers (sym (map_both mirrored flipped turned (λ p. refl) xs))
    ∙ numbers-flipped (map mirrored xs)
    ∙ ap reverse (sym (lower-mirrored xs))

pub lower-numbers-turned : (xs : List Stream) → lower_numbers (map turned xs) ≡ reverse (upper_numbers xs)
lower-numbers-turned xs =
    lower-mirrored (map turned xs) ∙ ap upper_numbers (map_both turned mirrored flipped both_ways xs) ∙ numbers-flipped xs
