use Rattle.std.proofs.Common.{◌≡◌, ◌+◌, sym, ap, ap₂, ◌∙◌, subst, to_z-of_z, to_z, of_z}
use Rattle.std.specs.Int.{w64}
use Rattle.std.specs.Int.Signed.{lt_z}
use Rattle.rules.specs.Streams.{streams, sample}
use Rattle.rules.specs.Use.{set_on}
use Rattle.samples.specs.Samples.{read_near}
use Rattle.envelope.specs.FirstBest.{First, stronger, stronger_orders, first_taken, first-left}
use Rattle.envelope.proofs.strongest.strongest_place.Goals as goal
use Rattle.envelope.proofs.strongest.strongest_place.Goals.{then-set_on, else-set_on}

pub set_on-requires : goal.set_on-requires
set_on-requires c = (c.requires.1, read_near c.requires.0 c.loop-i.best c.at.ensures)

pub set_on-requires-in-loop-i : goal.set_on-requires-in-loop-i
set_on-requires-in-loop-i c = (c.requires.1, read_near c.requires.0 c.loop-i.i c.at-in-loop-i.ensures)

pub loop-i-preserved : goal.loop-i-preserved
loop-i-preserved c =
    let a = c.args in
    let xs = streams a.east.now a.north.now in
    let l = c.loop-i in
    let orders = stronger_orders a.course.east a.course.north in
    let found : stronger a.course.east a.course.north (sample xs l.i) (sample xs l.best) ≡ lt_z (to_z w64 (of_z w64 c.set_on.result)) (to_z w64 (of_z w64 c.set_on-in-loop-i.result)) =
    sym
    (ap₂ lt_z
    (to_z-of_z {w = w64} (record { sfits = c.set_on.type_inv }) ∙ c.set_on.ensures ∙ ap (set_on a.course.east a.course.north) c.at.ensures)
    (to_z-of_z {w = w64} (record { sfits = c.set_on-in-loop-i.type_inv }) ∙
    c.set_on-in-loop-i.ensures ∙
    ap (set_on a.course.east a.course.north) c.at-in-loop-i.ensures)) in
    let next = First (stronger a.course.east a.course.north) xs (l.i + 1) in
    elim c.if-set_on.branch [
      | then-set_on w ↦ subst next (sym w.best-is) (first_taken orders xs l.invariant (found ∙ w.if-set_on.true))
      | else-set_on w ↦ subst next (sym w.best-is) (first-left orders xs l.invariant (found ∙ w.if-set_on.false))
    ]
