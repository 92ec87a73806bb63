use Rattle.std.specs.Prelude.{◌≡◌, suc, ◌+◌, ◌-◌}
use Rattle.std.proofs.Common.{sym, ◌∙◌, arith}
use Rattle.laws_sums.specs.MergePlaces.{stands_next}
use Rattle.sum.specs.Stretches.{starts, pair-first, pair_next, ends}
use Rattle.sum.specs.Corners.{both_of}
use Rattle.sum.proofs.follow.Together.count.Goals as goal

pub loop-at-init : goal.loop-at-init
loop-at-init c = (pair-first (both_of c.args.self), starts (both_of c.args.self), omega arith, omega arith)

pub loop-at-preserved : goal.loop-at-preserved
loop-at-preserved c =
    let both = both_of c.args.self in
    let inv = c.loop-at.invariant in
    let e : suc (c.loop-at.n - 1) ≡ c.loop-at.n + 1 - 1 = omega arith in
    (pair_next both c.next-at.ensures, rw e at (stands_next inv.1 c.next-at.ensures), omega arith, omega (arith, inv.3, c.next-at.ensures.further))

pub returns : goal.returns
returns c =
    let inv = c.loop-at.invariant in
    let e : c.loop-at.n ≡ suc (c.loop-at.n - 1) = omega arith in
    e ∙ sym (ends (both_of c.args.self) inv.0 (omega arith) inv.1)
