-- The sum from its two halves: what the scans find, what is left in, and what is written of them. Assumes nothing.
use Rattle.std.specs.Prelude.{◌≡◌, Bool, true, false, cond, ◌&&◌, List, ◌++◌, map, ℕ, ◌+◌, ◌-◌, ◌≤◌, ◌<◌, ℤ, ltb, length, take, drop}
use Rattle.std.proofs.Common.{sym, ap, ap₂, ◌∙◌, arith, length-append, take_all, lt-ltb, le-ltb}
use Rattle.std.proofs.Math.Bool.{and-false}
use Rattle.std.proofs.lemmas.List.{map-append, length-map}
use Rattle.std.proofs.Math.Seq.{slice, length-slice}
use borrow.Rule.Slice.PartMut.{put_mid}
use Rattle.rules.specs.Lists.{written}
use Rattle.rules.specs.Streams.{Stream, streams}
use Rattle.rules.specs.Use.{sum}
use Rattle.laws_rings.specs.Halves.{half, around}
use Rattle.laws_halves.specs.Closing.{LeftIn, around-left, left_in_order}
use Rattle.laws_halves.specs.Scanned.{HalfAt, Scanned}
use Rattle.laws_halves.specs.Stretch.{stretch-count, half-stretch}
use Rattle.laws_sums.specs.Merge.{merge, merge-ends}
use Rattle.laws_sums.specs.TwoMerges.{sum_merges}
use Rattle.samples.specs.Positions.{east_of}
use Rattle.samples.specs.Samples.{streams-length}
use Rattle.envelope.specs.Tests.{Sound}
use Rattle.envelope.specs.TwoRings.{Rings}
use Rattle.envelope.specs.Writes.{two-written}
use Rattle.halves.specs.Found.{found_halves}
use Rattle.sum.specs.declared.follow.Stretch.{Stretch}
use Rattle.sum.specs.Stretches.{On, Both, stretch_of, merged}

-- a stretch as the code holds it
abbrev pub held : ℕ → ℕ → Stretch
held from sides = record { from = from; sides = sides }

-- ---- one ring

module _ {es ns : List ℤ} {k c n : ℕ} (o : Sound es ns) (some : 0 < length es) (s : Scanned (east_of es) (length es) k c n) where
  count : length (streams es ns) ≡ length es
  count = streams-length es ns o.sampled.even

  halves : HalfAt false (streams es ns) 0 k × HalfAt true (streams es ns) c n
  halves = found_halves o.sampled o.is-envelope s

  on_half : {back : Bool} {from sides : ℕ} → HalfAt back (streams es ns) from sides → On es ns (held from sides)
  on_half h = record { sampled = o.sampled; some = some; within = omega (arith, h.within, count) }

  pub there_on : On es ns (held 0 k)
  there_on = on_half halves.0

  pub back_on : On es ns (held c n)
  back_on = on_half halves.1

  pub there-is : half false (streams es ns) ≡ stretch_of es ns (held 0 k)
  there-is = half-stretch halves.0

  pub back_is : half true (streams es ns) ≡ stretch_of es ns (held c n)
  back_is = half-stretch halves.1

-- ---- two rings

module _ {es ns fs ms : List ℤ} (p : Rings es ns fs ms) (some : 0 < length es) (some2 : 0 < length fs) {k c n k' c' n' : ℕ} (s : Scanned (east_of es) (length es) k c n)
    (t : Scanned (east_of fs) (length fs) k' c' n') where
  abbrev there : List Stream
  there = merged es ns fs ms (held 0 k) (held 0 k')

  abbrev back : List Stream
  back = merged es ns fs ms (held c n) (held c' n')

  pub there-both : Both es ns fs ms (held 0 k) (held 0 k')
  there-both = record { first = there_on p.first some s; second = there_on p.second some2 t; few = p.few }

  pub back-both : Both es ns fs ms (held c n) (held c' n')
  back-both = record { first = back_on p.first some s; second = back_on p.second some2 t; few = p.few }

  goes_round : sum (streams es ns) (streams fs ms) ≡ around there back
  goes_round =
      sum_merges (streams es ns) (streams fs ms)
      ∙ ap₂ around (ap₂ merge (there-is p.first some s) (there-is p.second some2 t))
      (ap₂ merge (back_is p.first some s) (back_is p.second some2 t))

  -- a merge of two stretches has a corner
  has-corner : (a b : Stretch) → 0 < length (merged es ns fs ms a b)
  has-corner a b =
      (merge-ends (stretch_of es ns a) (stretch_of fs ms b) (omega (arith, stretch-count (streams es ns) a.from a.sides))
      (omega (arith, stretch-count (streams fs ms) b.from b.sides))).0

  module _ {lo hi : ℕ} (l : LeftIn there back lo hi) where
    -- the sum is the half that goes there, then what is left in of the one that goes back
    pub sum-parts : sum (streams es ns) (streams fs ms) ≡ there ++ slice lo hi back
    sum-parts = goes_round ∙ around-left there back (has-corner (held 0 k) (held 0 k')) (has-corner (held c n) (held c' n')) l

    pub in_order : (lo ≤ hi) × (hi ≤ length back) × (lo ≤ 1)
    in_order = left_in_order (has-corner (held c n) (held c' n')) l

    pub sum-count : length (sum (streams es ns) (streams fs ms)) ≡ length there + (hi - lo)
    sum-count = ap length sum-parts ∙ length-append there (slice lo hi back) ∙ ap (λ (m : ℕ). length there + m) (length-slice lo hi back in_order.1)

-- ---- what is left in, as the code decides it

module _ (lo m : ℕ) (b : Bool) {n : ℕ} (e : n ≡ m) where
  pub last_out : lo < n → b ≡ true → n - 1 ≡ cond (ltb lo m && b) (m - 1) m
  last_out h t = rw (lt-ltb lo m (omega arith), t) (omega arith)

  pub last_in : lo < n → b ≡ false → n ≡ cond (ltb lo m && b) (m - 1) m
  last_in h t = rw (t, and-false) e

  pub none_in : n ≤ lo → n ≡ cond (ltb lo m && b) (m - 1) m
  none_in h = rw (le-ltb lo m (omega arith)) e

-- ---- what is written

-- all corners of the half that goes there
pub whole_slice : (M : List Stream) {n : ℕ} → n ≡ length M → slice 0 (0 + n) M ≡ M
whole_slice M {n} e = take_all (0 + n) M (omega arith)

-- one half and what is left in of the other, written one behind the other
pub both-written : (part : Stream → ℤ) (R M N : List Stream) (lo hi there : ℕ) (old w ys : List ℤ) → R ≡ M ++ slice lo hi N → there ≡ length M
    → lo ≤ hi → w ≡ written (map part (slice 0 (0 + there) M)) old
    → ys ≡ written (map part (slice lo (lo + (hi - lo)) N)) (take (length w - there) (drop there w))
    → put_mid there (length w - there) w ys ≡ written (map part R) old
both-written part R M N lo hi there old w ys r e l f g =
    two-written (map part M) (map part (slice lo hi N)) old w ys there (length-map M part ∙ sym e)
    (f ∙ ap (λ (L : List Stream). written (map part L) old) (whole_slice M e))
    (g ∙ ap (λ (t : ℕ). written (map part (slice lo t N)) (take (length w - there) (drop there w))) whole)
    ∙ ap (λ (L : List ℤ). written L old) (sym (ap (map part) r ∙ map-append part M (slice lo hi N)))
  where
    whole : lo + (hi - lo) ≡ hi
    whole = omega arith
