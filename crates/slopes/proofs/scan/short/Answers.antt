use Rattle.std.proofs.Common.{◌≡◌, ◌+◌, ◌-◌, ◌<◌, ◌∙◌, arith}
use Rattle.laws_ranks.specs.Least.{sought_here, sought_next}
use Rattle.laws_rounds.specs.Slopes.{slope_order}
use Rattle.slopes.specs.PassLaws.{forward}
use Rattle.slopes.specs.ShortLists.{asked_next}
use Rattle.slopes.proofs.scan.short.Goals as goal

pub loop-i-preserved : goal.loop-i-preserved
loop-i-preserved c =
    let t = c.loop-i.invariant in
    let p = c.least in
    let fewer : c.args.n - (c.loop-i.i + 1) ≡ c.args.n - c.loop-i.i - 1 = omega arith in
    let lower : c.args.r - (c.loop-i.i + 1) ≡ c.args.r - c.loop-i.i - 1 = omega arith in
    let more : 1 < c.args.r - c.loop-i.i = omega arith in
    rw (fewer, lower)
    (asked_next t.0 p.ensures p.auto.w more, p.auto.w ∙ t.1, sought_next slope_order (forward c.requires) t.2 p.ensures.out more)

pub returns : goal.returns
returns c =
    let all : c.args.r - 1 ≡ c.loop-i.i = omega arith in
    let out = rw all at c.least-2.ensures.out in
    let said = sought_here slope_order (forward c.requires) c.loop-i.invariant.2 out (omega arith) in
    record { isIn = said.0; has-rank = said.1 }
