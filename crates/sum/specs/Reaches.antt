-- The corners that set strongest on a course, of one ring and of two. Assumes nothing.
use Rattle.std.specs.Prelude.{◌≡◌, refl, true, false, ℕ, ◌<◌, ℤ, pos, negsuc, ◌≤ℤ◌, length}
use Rattle.std.proofs.Common.{sym, ◌∙◌, subst, arith}
use mathlib.Core.List.{List, Memᴰ}
use Rattle.whole.specs.Laws.{test_nlt}
use Rattle.rules.specs.Lists.{some_of}
use Rattle.rules.specs.Streams.{Stream, stream, streams, sample, beyond}
use Rattle.rules.specs.Use.{set_on, added, sums, sum}
use Rattle.laws_outline.specs.ListLaws.{at_place_in, is_some_of}
use Rattle.laws_sums.specs.Sums.{sums_members}
use Rattle.laws_sums.specs.Beyond.{Outermost, outermost, ring-beyond, sum_beyond}
use Rattle.samples.specs.Positions.{Near, Sampled}
use Rattle.samples.specs.Samples.{streams-length, read_near}
use Rattle.envelope.specs.FirstBest.{First, stronger, first_unbeaten}

-- a ring within the limit that has a corner
pub record One (es ns : List ℤ) : Type 0 where
  pub sampled : Sampled es ns
  pub some : 0 < length es

-- a corner that no other sets stronger than
pub record StrongestCorner (x y : ℤ) (es ns : List ℤ) (s : Stream) : Type 0 where
  pub given : Memᴰ s (streams es ns)
  pub most : (t : Stream) → Memᴰ t (streams es ns) → set_on x y t ≤ℤ set_on x y s
  pub near : Near s

-- the one at the place that is found
pub strongest-at : {x y : ℤ} {es ns : List ℤ} {r : ℕ} {s : Stream} → One es ns → First (stronger x y) (streams es ns) (length es) r
    → s ≡ sample (streams es ns) r → StrongestCorner x y es ns s
strongest-at {x} {y} {es} {ns} {r} {s} o f e = subst (StrongestCorner x y es ns) (sym e) (record { given = given; most = most; near = read_near o.sampled r refl })
  where
    count : length (streams es ns) ≡ length es
    count = streams-length es ns o.sampled.even

    given : Memᴰ (sample (streams es ns) r) (streams es ns)
    given = at_place_in (streams es ns) r (stream (pos 0) (pos 0)) (omega (arith, f.here, count))

    most : (t : Stream) → Memᴰ t (streams es ns) → set_on x y t ≤ℤ set_on x y (sample (streams es ns) r)
    most t m = test_nlt (set_on x y (sample (streams es ns) r)) (set_on x y t) (first_unbeaten (subst (λ (n : ℕ). First (stronger x y) (streams es ns) n r) (sym count) f) m)

-- the strongest corners of both, added
pub strongest-added : (x y : ℤ) {es ns fs ms : List ℤ} {p q s : Stream} → StrongestCorner x y es ns p → StrongestCorner x y fs ms q → s ≡ added p q
    → Outermost x y (streams es ns) (streams fs ms) s
strongest-added x y {es} {ns} {fs} {ms} h k e =
    subst (Outermost x y (streams es ns) (streams fs ms)) (sym e) (outermost x y h.given h.most k.given k.most)

-- ---- beyond the limit

module _ {x y : ℤ} {r t : List Stream} {s : Stream} (o : Outermost x y r t s) where
  -- a strongest sum that is beyond it
  pub given_beyond : beyond s ≡ true → some_of beyond (sum r t) ≡ true
  unfolding sum
  given_beyond e = ring-beyond (sums r t) ∙ is_some_of beyond ((sums_members r t s).1 o.given) e

-- a strongest sum on a course that is not
pub record Inside (x y : ℤ) (r t : List Stream) : Type 0 where
  pub s : Stream
  pub outermost : Outermost x y r t s
  pub inside : beyond s ≡ false

pub all_inside : {r t : List Stream} → Inside (pos 1) (pos 0) r t → Inside (negsuc 0) (pos 0) r t → Inside (pos 0) (pos 1) r t → Inside (pos 0) (negsuc 0) r t
    → some_of beyond (sum r t) ≡ false
all_inside e w n s = sum_beyond e.outermost w.outermost n.outermost s.outermost ∙ rw (e.inside, w.inside, n.inside, s.inside)
