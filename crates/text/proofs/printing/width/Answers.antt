use Rattle.std.specs.Prelude.{[], ◌∷◌, ◌+◌, ◌%◌, length}
use Rattle.std.proofs.Common.{refl, sym, ap, ◌∙◌, arith}
use Rattle.rules.specs.Program.{digit_zero}
use Rattle.text.specs.Naturals.{left-all, left_more, left_end}
use Rattle.text.proofs.printing.width.Goals as goal

pub loop-left-init : goal.loop-left-init
loop-left-init c = ([], left-all c.args.n c.ranges.n.fits, refl)

pub loop-left-preserved : goal.loop-left-preserved
loop-left-preserved c =
    let i = c.loop-left.invariant in
    ((digit_zero + c.loop-left.left % 10) ∷ i.0, left_more i.1 (omega arith), omega (arith, i.2))

pub returns : goal.returns
returns c =
    let i = c.loop-left.invariant in
    i.2 ∙ sym (ap length (left_end i.1 (omega arith)))
