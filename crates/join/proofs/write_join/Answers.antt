-- Both chains, walked over the halves of both rings, close to the join.
use Rattle.std.specs.Prelude.{true, false, List, ℤ, ◌-◌, length}
use Rattle.std.proofs.Common.{◌∙◌, arith}
use borrow.Rule.Slice.PartMut.{same_len_mid}
use Rattle.closing.specs.RingPromise.{outcome_from}
use Rattle.envelope.specs.TwoRings.{Rings}
use Rattle.samples.specs.Positions.{east_of}
use Rattle.walk.specs.declared.draw.Way.{Way}
use Rattle.walk.specs.Ways.{Ways}
use Rattle.join.specs.RingWays.{WaysHeld, ways_of}
use Rattle.join.specs.TwoWays.{two-corners, two_ways}
use Rattle.join.specs.ChainsClosed.{behind-length, chained_both, chained_ring}
use Rattle.join.proofs.write_join.Goals as goal

module _ {east north east2 north2 : List ℤ} (o : Rings east north east2 north2) {a b a2 b2 : Way}
    (p : WaysHeld (east_of east) (length east) a b) (q : WaysHeld (east_of east2) (length east2) a2 b2) where
  upper_ways : Ways east north east2 north2 false a a2
  upper_ways = two_ways o (ways_of o.first p).0 (ways_of o.second q).0

  lower_ways : Ways east north east2 north2 true b b2
  lower_ways = two_ways o (ways_of o.first p).1 (ways_of o.second q).1

pub invariant_of-rings : goal.invariant_of-rings
invariant_of-rings c = record { corners = two-corners c.requires.0 }

pub chain-upper-requires : goal.chain-upper-requires
chain-upper-requires c =
    let upper = upper_ways c.requires.0 c.of-first.ensures c.of-second.ensures in
    (upper, omega (arith, c.requires.1, upper.first.few, upper.second.few))

pub chain-lower-requires : goal.chain-lower-requires
chain-lower-requires c =
    let upper = upper_ways c.requires.0 c.of-first.ensures c.of-second.ensures in
    let lower = lower_ways c.requires.0 c.of-first.ensures c.of-second.ensures in
    let u = c.chain-upper in (
      lower,
      omega
          (arith, c.requires.1, behind-length u.result u.new.w, u.auto.w, u.ensures.few, upper.first.few, upper.second.few, lower.first.few, lower.second.few),
    )

pub close-requires : goal.close-requires
close-requires c =
    let u = c.chain-upper in chained_both (length u.new.w - u.result) u.ensures c.chain-lower.ensures

pub returns : goal.returns
returns c =
    let u = c.chain-upper in
    let l = c.chain-lower in
    outcome_from (chained_ring (length u.new.w - u.result) u.ensures l.ensures (two-corners c.requires.0))
    (same_len_mid u.result (length u.new.w - u.result) u.new.w l.new.w l.auto.w ∙ u.auto.w)
    c.close.ensures
