use Rattle.std.proofs.Common.{ap, ◌∙◌}
use Rattle.laws_ranks.specs.Kept.{byte_is}
use Rattle.slopes.specs.Brackets.{keeping_none, keeping_more}
use Rattle.slopes.proofs.scan.keep.Goals as goal

pub loop-i-init : goal.loop-i-init
loop-i-init g c = keeping_none g.test c.args.n c.args.m c.args.w.now

pub loop-i-preserved : goal.loop-i-preserved
loop-i-preserved g c =
    let t = c.passes.result in
    let s = c.at-s in
    rw (c.copy.ensures, byte_is t)
    (keeping_more c.requires.1.0 c.loop-i.invariant c.loop-i-test.true t
    (c.requires.1.1.1 s.result t s.ensures.near c.passes.ensures ∙ ap g.test s.ensures.is))
