use Rattle.std.proofs.Common.{◌≡◌, ap, ◌∙◌, arith}
use Rattle.rules.specs.Round.{slope_le}
use Rattle.laws_ranks.specs.Kept.{byte_is}
use Rattle.laws_ranks.specs.Ranks.{under, over}
use Rattle.slopes.specs.Fractions.{as_slope}
use Rattle.slopes.specs.PassLaws.{parting_none, parting_more, parted}
use Rattle.slopes.proofs.scan.part.Goals as goal

pub loop-i-init : goal.loop-i-init
loop-i-init c = parting_none c.args.n c.args.w.now (as_slope c.args.p)

pub loop-i-preserved : goal.loop-i-preserved
loop-i-preserved c =
    let p = as_slope c.args.p in
    let below = c.below in
    let above = c.below-in-loop-i in
    rw (c.copy-in-loop-i.ensures, c.copy.ensures, byte_is below.result, byte_is above.result)
    (parting_more c.requires.0 c.loop-i.invariant c.loop-i-test.true below.result above.result
    (below.ensures ∙ ap (under slope_le p) c.at-s.ensures.is)
    (above.ensures ∙ ap (over slope_le p) c.at-s.ensures.is))

pub returns : goal.returns
returns c = let all : c.loop-i.i ≡ c.args.n = omega arith in parted (rw all at c.loop-i.invariant)
