use Rattle.std.proofs.Common.{sym, ap, ap₂, ◌∙◌, Bool, ◌&&◌, ◌||◌}
use Rattle.std.specs.Int.Signed.{lt_z}
use Rattle.laws_neighbours.specs.NeighbourTest.{turns}
use Rattle.samples.specs.StreamWords.{held}
use Rattle.envelope.proofs.test.turns.Goals as goal

pub returns-then-a-b : goal.returns-then-a-b
unfolding turns
returns-then-a-b c =
    let a = c.args in
    let near = c.requires in
    let right = sym c.strictly_right.ensures ∙ c.if-strictly_right.true in
    let west = ap₂ lt_z (sym (held near.0.east_near).same) (sym (held near.1.east_near).same) ∙ c.if-a-b.true in
    ap₂ (λ (s t : Bool). s && (t || lt_z a.c.east a.b.east)) (sym right) (sym west)

pub returns-then-strictly_right : goal.returns-then-strictly_right
unfolding turns
returns-then-strictly_right c =
    let a = c.args in
    let near = c.requires in
    let right = sym c.strictly_right.ensures ∙ c.if-strictly_right.true in
    let not_west = ap₂ lt_z (sym (held near.0.east_near).same) (sym (held near.1.east_near).same) ∙ c.if-a-b.false in
    ap₂ lt_z (held near.2.east_near).same (held near.1.east_near).same ∙
    ap₂
    (λ (s t : Bool). s && (t || lt_z a.c.east a.b.east))
    (sym right)
    (sym not_west)

pub returns : goal.returns
unfolding turns
returns c =
    let a = c.args in
    ap
    (λ (s : Bool). s && (lt_z a.a.east a.b.east || lt_z a.c.east a.b.east))
    (sym c.if-strictly_right.false ∙ c.strictly_right.ensures)
