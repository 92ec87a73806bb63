use Rattle.std.proofs.Common.{pos, ◌≡◌, get_or, sym, ap₂, ◌∙◌, rules}
use mir.Val.{to_z, of_z}
use Rattle.std.specs.Int.{w32}
use Rattle.rules.specs.Streams.{stream}
use Rattle.samples.specs.Samples.{sample-at}
use Rattle.samples.proofs.streams.at.Goals as goal

-- the two parts that are read are those of the sample
pub returns : goal.returns
returns c =
    let a = c.args in
    let e : to_z w32 (of_z w32 (get_or a.east.now a.i (pos 0))) ≡ get_or a.east.now a.i (pos 0) = search rules in
    let n : to_z w32 (of_z w32 (get_or a.north.now a.i (pos 0))) ≡ get_or a.north.now a.i (pos 0) = search rules in
    ap₂ stream e n ∙ sym (sample-at a.east.now a.north.now c.requires.0 a.i)
