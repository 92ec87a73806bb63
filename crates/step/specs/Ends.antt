-- The ends of the samples by number: the best by nearness, the earliest of those at its position.
-- Assumes nothing.
use Rattle.std.specs.Prelude.{◌≡◌, Bool, true, false, ◌&&◌, ◌||◌, ℕ, ◌+◌, ◌≤◌, ◌<◌, ◌≤ℤ◌, get_or, take, drop}
use Rattle.std.proofs.Math.Path.{refl}
use Rattle.std.proofs.Common.{sym, ap, ap₂, ◌∙◌, subst, add-one, arith, take-suc, take_all, length-take-le}
use Rattle.std.proofs.Math.Bool.{cond, and_comm}
use Rattle.std.proofs.Math.Option.{some}
use mathlib.Core.List.Memᴰ
use mathlib.Core.List.{List, [], ◌∷◌, ◌++◌, map}
use Rattle.std.specs.Int.Signed.{le_z, lt_z}
use Rattle.std.proofs.lemmas.List.{drop-append-le}
use Rattle.rules.specs.Lists.{best_from}
use Rattle.rules.specs.Streams.{Stream, stream}
use Rattle.rules.specs.Chain.{Samples, Of, LeftEnd, RightEnd, leftmost, rightmost}
use Rattle.laws_outline.specs.ListLaws.{Ranks, Best, best_from_best}
use Rattle.laws_outline.specs.TwoKeys.{two_keys_rank, two_keys_no}
use Rattle.laws_rounds.specs.ListedItems.{first_of, best-first}
use Rattle.laws_rounds.specs.Pairs.{here}
use Rattle.laws_rounds.specs.WholeList.{numbers, numbers-length, numbers-at}

-- nearer the right end, or else the left end
abbrev pub nearer : Bool → Stream → Stream → Bool
nearer true p q = rightmost p q
nearer false p q = leftmost p q

-- the right end of some samples, or else their left end
abbrev pub End : Bool → Samples → Stream → Type 0
End true S p = RightEnd S p
End false S p = LeftEnd S p

-- what a scan for an end asks: one sample at least
pub record EndAsks (count : ℕ) : Type 0 where
  pub some_sample : 1 ≤ count
  pub few : count ≤ 65536

module _ (at : ℕ → Stream) (right : Bool) where
  -- the nearest of 0 and the numbers after it
  abbrev pub nearest : List ℕ → ℕ
  nearest l = best_from (λ x y. nearer right (at x) (at y)) 0 l

  -- x is the end of the listed samples, and the first of the list at its position
  pub record EndOf (l : List ℕ) (x : ℕ) : Type 0 where
    pub is-end : End right (Of (map at l)) (at x)
    pub first : first_of (here at (at x)) l ≡ some x

  -- one number more
  pub nearest_more : (l : List ℕ) (y : ℕ) → nearest (l ++ (y ∷ [])) ≡ cond (nearer right (at y) (at (nearest l))) y (nearest l)
  unfolding best_from
  nearest_more l y = go 0 l
    where
      go : (x : ℕ) (l : List ℕ)
          → best_from (λ x y. nearer right (at x) (at y)) x (l ++ (y ∷ []))
          ≡ cond (nearer right (at y) (at (best_from (λ x y. nearer right (at x) (at y)) x l))) y (best_from (λ x y. nearer right (at x) (at y)) x l)
      go x [] = refl
      go x (z ∷ l) = go (cond (nearer right (at z) (at x)) z x) l

-- ---- a scan of all samples for an end: x is the nearest of the first i

pub record Scanned (at : ℕ → Stream) (right : Bool) (n i x : ℕ) : Type 0 where
  pub started : 1 ≤ i
  pub inside : i ≤ n
  pub below : x < i
  pub is : x ≡ nearest at right (drop 1 (take i (numbers n)))

module _ {at : ℕ → Stream} {right : Bool} {n : ℕ} where
  pub scanned_none : 1 ≤ n → Scanned at right n 1 0
  unfolding best_from
  scanned_none h = record { started = omega arith; inside = h; below = omega arith; is = none (numbers n) }
    where
      none : (l : List ℕ) → 0 ≡ nearest at right (drop 1 (take 1 l))
      none [] = refl
      none (x ∷ l) = refl

  pub scanned_more : {i x : ℕ} (b : Bool) → nearer right (at i) (at x) ≡ b → i < n → Scanned at right n i x → Scanned at right n (i + 1) (cond b i x)
  scanned_more {i} {x} b e h s = record { started = omega arith; inside = omega arith; below = below b; is = is }
    where
      below : (b : Bool) → cond b i x < i + 1
      below true = omega arith
      below false = omega (arith, s.below)

      more : drop 1 (take (i + 1) (numbers n)) ≡ drop 1 (take i (numbers n)) ++ (i ∷ [])
      more =
          ap (λ (l : List ℕ). drop 1 l) (ap (λ (k : ℕ). take k (numbers n)) (add-one i) ∙ take-suc (numbers n) i 0 (omega (arith, numbers-length n)))
          ∙ drop-append-le 1 (take i (numbers n)) (get_or (numbers n) i 0 ∷ []) (omega (arith, s.started, length-take-le i (numbers n) (omega (arith, numbers-length n))))
          ∙ ap (λ (y : ℕ). drop 1 (take i (numbers n)) ++ (y ∷ [])) (numbers-at n i 0 h)

      is : cond b i x ≡ nearest at right (drop 1 (take (i + 1) (numbers n)))
      is =
          ap₂ (λ (c : Bool) (y : ℕ). cond c i y) (sym e ∙ ap (λ (y : ℕ). nearer right (at i) (at y)) s.is) s.is
          ∙ sym (nearest_more at right (drop 1 (take i (numbers n))) i)
          ∙ ap (nearest at right) (sym more)

  pub scanned_all : {i x : ℕ} → n ≤ i → Scanned at right n i x → x ≡ nearest at right (drop 1 (numbers n))
  scanned_all {i} h s = s.is ∙ ap (λ (l : List ℕ). nearest at right (drop 1 l)) (take_all i (numbers n) (omega (arith, numbers-length n)))

-- with the easts exchanged, what is nearer the right end is nearer the left end
pub rightmost_exchanged : (p q : Stream) → leftmost (stream q.east p.north) (stream p.east q.north) ≡ rightmost p q
unfolding leftmost rightmost
rightmost_exchanged p q =
    ap (λ (level : Bool). lt_z q.east p.east || level && lt_z q.north p.north) (and_comm (le_z q.east p.east) (le_z p.east q.east))

-- ---- the nearest is the end

-- what is known of s where it is no nearer than p
abbrev Lies : Bool → Stream → Stream → Type 0
Lies true p s = (s.east ≤ℤ p.east) × (s.east ≡ p.east → s.north ≤ℤ p.north)
Lies false p s = (p.east ≤ℤ s.east) × (s.east ≡ p.east → s.north ≤ℤ p.north)

no_nearer : (right : Bool) (p s : Stream) → nearer right s p ≡ false → Lies right p s
unfolding leftmost rightmost
no_nearer true p s e = two_keys_no p.east s.east s.east p.east p.north s.north e
no_nearer false p s e = two_keys_no s.east p.east s.east p.east p.north s.north e

nearer_ranks : (at : ℕ → Stream) (right : Bool) → Ranks (λ (x : ℕ). Unit {0}) (λ x y. nearer right (at x) (at y))
unfolding leftmost rightmost
nearer_ranks at true = two_keys_rank false false (λ x. (at x).east) (λ x. (at x).north)
nearer_ranks at false = two_keys_rank true false (λ x. (at x).east) (λ x. (at x).north)

ends_so : (right : Bool) (S : Samples) (p : Stream) → S p → ((s : Stream) → S s → Lies right p s) → End right S p
ends_so true S p m h = record { given = m; most = λ s n. (h s n).0; greatest = λ s n. (h s n).1 }
ends_so false S p m h = record { given = m; least = λ s n. (h s n).0; greatest = λ s n. (h s n).1 }

pub nearest-is : (at : ℕ → Stream) (right : Bool) (l : List ℕ) → EndOf at right (0 ∷ l) (nearest at right l)
nearest-is at right l =
    record {
      is-end =
          ends_so
          right
          (Of (map at (0 ∷ l)))
          (at x)
          (Memᴰ.map at b.given)
          (λ s m. let o = Memᴰ.of_map at (0 ∷ l) m in subst (Lies right (at x)) o.2 (no_nearer right (at x) (at o.0) (b.unbeaten o.0 o.1)));
      first = best-first at (nearer right) (nearer_ranks at right) 0 l;
    }
  where
    x : ℕ
    x = nearest at right l

    b : Best (λ y z. nearer right (at y) (at z)) (0 ∷ l) x
    b = best_from_best (nearer_ranks at right) 0 l (λ y m. tt)
