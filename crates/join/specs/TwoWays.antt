-- The ways over two rings that passed their tests, at the run of places of both: what the walk asks. Assumes nothing.
use Rattle.std.specs.Prelude.{◌≡◌, refl, Bool, List, ℕ, ◌+◌, ◌-◌, ◌<◌, ℤ, pos, ◌≤ℤ◌, length}
use Rattle.std.proofs.Common.{sym, ap, ◌∙◌, subst, subst₂, inl, inr, arith}
use Rattle.std.proofs.Math.Decide.{dec_lt}
use Rattle.rules.specs.Streams.{Stream, stream, streams, sample}
use Rattle.laws_outline.specs.ListLaws.{at_place_in}
use Rattle.laws_outline.specs.Under.{Under, on_inside}
use Rattle.laws_stack.specs.DrawnWalk.{Seen}
use Rattle.samples.specs.Positions.{facing, Near}
use Rattle.samples.specs.Samples.{read_near, streams-length}
use Rattle.envelope.specs.TwoRings.{Rings}
use Rattle.walk.specs.TwoRings.{Corners, both, count, corner_at}
use Rattle.walk.specs.Places.{sample-first, sample-second}
use Rattle.walk.specs.Ways.{way_place, first_way, second_way, Ways}
use Rattle.join.specs.RingWays.{held, way_at, WayOver}

module _ {es ns fs ms : List ℤ} (o : Rings es ns fs ms) where
  even : length es ≡ length ns
  even = o.first.sampled.even

  even2 : length fs ≡ length ms
  even2 = o.second.sampled.even

  pub two-corners : Corners es ns fs ms
  two-corners = record { even = even; even2 = even2; few = o.few; near = λ k. near_at k (dec_lt k (length es)) }
    where
      near_at : (k : ℕ) → Dec (k < length es) → Near (sample (both es ns fs ms) k)
      near_at k (yes l) = subst Near (sample-first es ns fs ms even k l) (read_near o.first.sampled k refl)
      near_at k (no l) = subst Near (sample-second es ns fs ms even k (omega arith)) (read_near o.second.sampled (k - length es) refl)

  module _ {lower : Bool} {from from2 n n2 : ℕ} (a : WayOver lower (streams es ns) (length es) from n) (b : WayOver lower (streams fs ms) (length fs) from2 n2) where
    abbrev one : ℕ → Stream
    one = first_way es ns fs ms lower (held from n)

    abbrev other : ℕ → Stream
    other = second_way es ns fs ms lower (held from2 n2)

    -- each way at its own places, and at those of both
    one_same : (i : ℕ) → i < n → way_at lower (streams es ns) (length es) from i ≡ one i
    one_same i l = ap (facing lower) (sample-first es ns fs ms even (way_place lower (length es) from i) (a.inside.below i l))

    other-same : (j : ℕ) → j < n2 → way_at lower (streams fs ms) (length fs) from2 j ≡ other j
    other-same j l =
        let x = way_place lower (length fs) from2 j in
        let e : x ≡ length es + x - length es = omega arith in
        ap (facing lower) (ap (sample (streams fs ms)) e ∙ sample-second es ns fs ms even (length es + x) (omega arith))

    under-both : (k : ℕ) → k < count es fs → Dec (k < length es) → Under (Seen one n other n2 n n2) (corner_at es ns fs ms lower k)
    under-both k h (yes l) =
        subst (λ (s : Stream). Under (Seen one n other n2 n n2) (facing lower s)) (sample-first es ns fs ms even k l)
        (on_inside (λ t u. inl (u.0, u.1, u.2 ∙ one_same u.0 u.1))
        (a.under (sample (streams es ns) k) (at_place_in (streams es ns) k (stream (pos 0) (pos 0)) (omega (arith, streams-length es ns even)))))
    under-both k h (no l) =
        subst (λ (s : Stream). Under (Seen one n other n2 n n2) (facing lower s)) (sample-second es ns fs ms even k (omega arith))
        (on_inside (λ t u. inr (u.0, u.1, u.2 ∙ other-same u.0 u.1))
        (b.under (sample (streams fs ms) (k - length es)) (at_place_in (streams fs ms) (k - length es) (stream (pos 0) (pos 0)) (omega (arith, streams-length fs ms even2)))))

    -- THE LAW
    pub two_ways : Ways es ns fs ms lower (held from n) (held from2 n2)
    two_ways = record {
      corners = two-corners;
      first = a.inside;
      second = b.inside;
      east = record {
        one = λ i l. subst₂ (λ (p q : Stream). p.east ≤ℤ q.east) (one_same i (omega arith)) (one_same _ l) (a.east i l);
        other = λ j l. subst₂ (λ (p q : Stream). p.east ≤ℤ q.east) (other-same j (omega arith)) (other-same _ l) (b.east j l);
      };
      under = λ s u. subst (Under (Seen one n other n2 n n2)) (sym u.2) (under-both u.0 u.1 (dec_lt u.0 (length es)));
    }
