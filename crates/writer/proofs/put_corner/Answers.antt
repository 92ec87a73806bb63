use Rattle.std.proofs.Common.{◌∙◌, rules, w32}
use mir.Val.{SFits}
use Rattle.samples.specs.Placed.{then}
use Rattle.writer.proofs.FourBytes.{part_given}
use Rattle.writer.proofs.put_corner.Goals as goal

pub returns : goal.returns
returns c =
    let f : SFits w32 c.args.s.east = search rules in
    let g : SFits w32 c.args.s.north = search rules in
    let e = c.to_be_bytes.ensures ∙ part_given c.args.s.east f in
    let n = c.to_be_bytes-2.ensures ∙ part_given c.args.s.north g in
    then (rw e at c.put_bytes-next.ensures) (rw n at c.put_bytes.ensures)
