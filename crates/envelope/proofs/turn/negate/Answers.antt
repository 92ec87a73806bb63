use Rattle.std.proofs.Common.{ap, ◌∙◌, arith, get_or, set, neg_ℤ, pos}
use Rattle.std.specs.Int.{w32}
use Rattle.whole.specs.Solver.{var, ⊝◌}
use Rattle.whole.specs.Fits.{[]ʷ, ◌∷ʷ◌, word-is}
use Rattle.envelope.specs.Writes.{mapped_more}
use Rattle.envelope.proofs.turn.negate.Goals as goal

pub loop-i-preserved : goal.loop-i-preserved
loop-i-preserved c =
    let a = c.args in
    let l = c.loop-i in
    let part = word-is w32 (c.requires.0.near l.i ∷ʷ []ʷ) (⊝ var 0) tt in
    ap (set l.out l.i) part ∙
    ap (λ out. set out l.i (neg_ℤ (get_or a.parts.now l.i (pos 0)))) l.invariant ∙
    mapped_more neg_ℤ (pos 0) a.parts.now a.out.now l.i (omega arith) (omega arith)
