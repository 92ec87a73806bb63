-- The loop counts the easts on either side of a.
use Rattle.std.proofs.Common.{◌≡◌, ap, ap₂, ◌∙◌, ◌&&◌, ℤ, pos, get_or, to_z-of_z, arith, rules}
use Rattle.std.specs.Int.Signed.{le_z, lt_z}
use Rattle.std.specs.Int.{w32}
use mir.Val.{to_z, of_z}
use Rattle.samples.specs.Positions.{easts_span}
use Rattle.samples.specs.Scans.{seen_more, seen_all}
use Rattle.samples.proofs.tests.spans.Goals as goal

pub loop-x-preserved : goal.loop-x-preserved
loop-x-preserved c =
    let l = c.loop-x in
    let z = to_z w32 (of_z w32 c.args.a) in
    let x = get_or c.args.e.now l.x-index (pos 0) in
    let is : to_z w32 (of_z w32 x) ≡ x = search rules in (
      seen_more (λ y. le_z y z) (pos 0) _ (omega arith) (ap (λ (y : ℤ). le_z y z) is) l.invariant.0,
      seen_more (λ y. lt_z z y) (pos 0) _ (omega arith) (ap (λ (y : ℤ). lt_z z y) is) l.invariant.1,
    )

pub returns : goal.returns
unfolding easts_span
returns c =
    let l = c.loop-x in
    let z = to_z w32 (of_z w32 c.args.a) in
    ap₂ ◌&&◌ (seen_all (λ y. le_z y z) (omega arith) l.invariant.0) (seen_all (λ y. lt_z z y) (omega arith) l.invariant.1)
    ∙ ap (λ (y : ℤ). easts_span y c.args.e.now) (to_z-of_z c.ranges.a)
