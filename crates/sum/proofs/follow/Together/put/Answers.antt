use Rattle.std.specs.Prelude.{◌≡◌, ◌++◌, ℕ, suc, ◌+◌, drop}
use Rattle.std.proofs.Common.{sym, ap, ◌∙◌, rules, arith}
use Rattle.std.proofs.Math.ListN.{length-set}
use Rattle.rules.specs.Streams.{sample}
use Rattle.laws_stack.specs.Places.{listed, written_on}
use Rattle.walk.specs.StreamTests.{east_of, north_of}
use Rattle.samples.specs.HeldStream.{stream_of}
use Rattle.sum.specs.Listing.{listed-written}
use Rattle.sum.specs.Stretches.{reached_next}
use Rattle.sum.specs.Corners.{merged_of}
use Rattle.sum.proofs.follow.Together.put.Goals as goal

pub loop-k-preserved : goal.loop-k-preserved
loop-k-preserved c =
    let a = c.args in
    let p = c.requires in
    let inv = c.loop-k.invariant in
    let k = c.loop-k.k in
    let r = c.sum_at-s.result in
    let M = merged_of a.self in
    let h = c.loop-k-test.true in
    let stands = inv.1.stands (omega (arith, p.1)) in
    let corner : stream_of r ≡ sample M (a.lo + k) = c.sum_at-s.ensures ∙ sym stands.corner in
    let e : suc (a.lo + k) ≡ a.lo + (k + 1) = omega arith in (
      c.step-at.ensures.0,
      rw e at (reached_next inv.1 c.step-at.ensures.1),
      (
        written_on (λ x. (sample M (a.lo + x)).east) a.out_east.now inv.2.0 (search rules ∙ ap east_of corner) (omega (arith, p.2)),
        simp length-set inv.2.1,
      ),
      (
        written_on (λ x. (sample M (a.lo + x)).north) a.out_north.now inv.3.0 (search rules ∙ ap north_of corner) (omega (arith, p.3)),
        simp length-set inv.3.1,
      ),
    )

pub returns : goal.returns
returns c =
    let a = c.args in
    let p = c.requires in
    let inv = c.loop-k.invariant in
    let M = merged_of a.self in
    let left = c.loop-k-test.false in
    let e : c.loop-k.k ≡ a.n = omega arith in (
      inv.2.0 ∙ ap (λ (k : ℕ). listed (λ x. (sample M (a.lo + x)).east) k ++ drop k a.out_east.now) e
          ∙ listed-written east_of M a.lo a.n a.out_east.now p.1,
      inv.3.0 ∙ ap (λ (k : ℕ). listed (λ x. (sample M (a.lo + x)).north) k ++ drop k a.out_north.now) e
          ∙ listed-written north_of M a.lo a.n a.out_north.now p.1,
    )
