use Rattle.std.proofs.Common.{◌≡◌, ◌<◌, ◌+◌, true, false, sym, ap₂, ◌∙◌, arith}
use Rattle.std.proofs.Math.Path.{subst⁻¹}
use Rattle.samples.specs.Sides.{size, seen}
use Rattle.step.specs.Ends.{Scanned, scanned_none, scanned_more, scanned_all, nearer}
use Rattle.step.proofs.ends.end_of.Goals as goal
use Rattle.step.proofs.ends.end_of.Goals.{then-nearer, else-nearer}

pub loop-y-init : goal.loop-y-init
loop-y-init c = scanned_none (omega arith)

pub loop-y-preserved : goal.loop-y-preserved
loop-y-preserved c =
    let a = c.args in
    let l = c.loop-y in
    let h : l.y < size a.s = omega arith in
    let told : c.nearer.result ≡ nearer a.right (seen a.s l.y) (seen a.s l.x) =
    c.nearer.ensures ∙ ap₂ (nearer a.right) c.position.ensures c.position-in-loop-y.ensures in
    let scanned = Scanned (seen a.s) a.right (size a.s) (l.y + 1) in
    elim c.if-nearer.branch [
      | then-nearer w ↦ subst⁻¹ scanned w.x-is (scanned_more true (sym told ∙ w.if-nearer.true) h l.invariant)
      | else-nearer w ↦ subst⁻¹ scanned w.x-is (scanned_more false (sym told ∙ w.if-nearer.false) h l.invariant)
    ]

pub returns : goal.returns
returns c = scanned_all (omega arith) c.loop-y.invariant
