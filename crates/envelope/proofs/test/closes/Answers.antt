use Rattle.std.proofs.Common.{sym, ap, ap₂, ◌∙◌, ◌&&◌, Bool}
use Rattle.std.specs.Int.Signed.{le_z}
use Rattle.laws_neighbours.specs.NeighbourTest.{closes}
use Rattle.samples.specs.StreamWords.{held}
use Rattle.envelope.proofs.test.closes.Goals as goal

pub returns-then-strictly_right : goal.returns-then-strictly_right
unfolding closes
returns-then-strictly_right c =
    let a = c.args in
    let near = c.requires in
    ap₂ le_z (held near.2.east_near).same (held near.1.east_near).same ∙
    ap
    (λ (s : Bool). s && le_z a.first.east a.b.east)
    (sym c.if-strictly_right.true ∙ c.strictly_right.ensures)

pub returns : goal.returns
unfolding closes
returns c =
    let a = c.args in
    ap (λ (s : Bool). s && le_z a.first.east a.b.east) (sym c.if-strictly_right.false ∙ c.strictly_right.ensures)
