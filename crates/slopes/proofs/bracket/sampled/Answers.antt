use Rattle.std.proofs.Common.{◌-◌, ◌*◌, length, arith}
use borrow.Rule.Slice.PartMut.{take_put}
use Rattle.slopes.specs.ScratchLaws.{alike-take}
use Rattle.slopes.specs.Gathering.{gathered_asks, gathered_pivot}
use Rattle.slopes.proofs.bracket.sampled.Goals as goal

pub pick-requires : goal.pick-requires
pick-requires c = gathered_asks c.requires.0 c.sample-g.auto.w c.sample-g.ensures (omega arith) (omega arith)

pub returns : goal.returns
returns c =
    let p = c.pick in
    let v = c.sample-g.new.w in
    let e = 2 * c.args.n in
    let room = c.requires.0.room in
    let long = c.sample-g.auto.w in
    gathered_pivot c.requires.0 long c.sample-g.ensures (alike-take (take_put e (length v - e) v p.new.w (omega arith))) p.ensures
