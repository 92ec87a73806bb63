use Rattle.std.specs.Prelude.{◌≡◌}
use Rattle.std.proofs.Common.{w32, to_z, of_z, ap₂, inl, inr, arith, rules}
use Rattle.text.specs.PrintedCorners.{printed_corner, lines_none, lines_more, lines_all, line_room}
use Rattle.text.proofs.printing.put_corners.Goals as goal

pub loop-e-init : goal.loop-e-init
loop-e-init c =
    let e : c.into_iter-e-iterator.result.a.rest.now ≡ c.args.east.now = search rules in
    let n : c.into_iter-e-iterator.result.b.rest.now ≡ c.args.north.now = search rules in
    rw (e, n) (lines_none c.args.east.now c.args.north.now c.args.from c.args.out.now (omega arith))

pub put_corner-at-requires : goal.put_corner-at-requires
put_corner-at-requires c =
    let e : to_z w32 (of_z w32 c.in-Some.e.now) ≡ c.in-Some.e.now = search rules in
    let n : to_z w32 (of_z w32 c.in-Some.n.now) ≡ c.in-Some.n.now = search rules in
    rw (ap₂ printed_corner e n)
    (line_room c.loop-e.invariant c.in-Some.ensures.steps.0 c.in-Some.ensures.steps.1 c.requires.north_in_bounds)

pub loop-e-preserved : goal.loop-e-preserved
loop-e-preserved c =
    let e : to_z w32 (of_z w32 c.in-Some.e.now) ≡ c.in-Some.e.now = search rules in
    let n : to_z w32 (of_z w32 c.in-Some.n.now) ≡ c.in-Some.n.now = search rules in
    lines_more c.loop-e.invariant c.in-Some.ensures.steps.0 c.in-Some.ensures.steps.1 (rw (ap₂ printed_corner e n) at c.put_corner-at.ensures)

pub returns : goal.returns
returns c = lines_all c.loop-e.invariant (elim c.in-None.ensures.steps [ inl w ↦ inl w.1.0 | inr w ↦ inr w.1.0 ])
