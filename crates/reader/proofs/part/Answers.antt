use Rattle.std.proofs.Common.{ap, ◌∙◌, w32}
use mir.Val.{to_z}
use Rattle.whole.specs.Fits.{cast_read}
use Rattle.rules.specs.Record.{word}
use Rattle.reader.proofs.FourBytes.{bytes_read, twos_read}
use Rattle.reader.proofs.part.Goals as goal

pub returns : goal.returns
returns c =
    let r = c.from_be_bytes in
    (cast_read w32 r.result r.type_inv).same ∙ r.ensures ∙ ap (to_z w32) (bytes_read c.args.bytes.now c.args.at) ∙ twos_read (word c.args.bytes.now c.args.at)
