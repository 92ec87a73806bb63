use Rattle.std.proofs.Common.{◌≡◌, get_or, ap, ◌∙◌, arith, w32, to_z, of_z}
use lib.Ieee.{nan}
use mir.ValLaws.{to_z-of_z}
use Rattle.rules.specs.Door.{part}
use Rattle.door.specs.DoorAnswers.{whole_of}
use Rattle.door.proofs.Written.{front_more, front_all}
use Rattle.door.proofs.write_wholes.Goals as goal

pub loop-i-preserved : goal.loop-i-preserved
loop-i-preserved c =
    let stored : to_z w32 (of_z w32 c.whole.result) ≡ whole_of (part (get_or c.args.parts.now c.loop-i.i nan)) =
    to_z-of_z w32 c.whole.result (record { sfits = c.whole.type_inv }) ∙ c.whole.ensures ∙ ap whole_of c.part.ensures in
    rw (stored, c.loop-i.invariant) (front_more c.args.parts.now c.args.output.now c.loop-i.i (omega arith) (omega arith))

pub returns : goal.returns
returns c = c.loop-i.invariant ∙ front_all c.args.parts.now c.args.output.now c.loop-i.i (omega arith)
