use Rattle.std.proofs.Common.{◌∙◌}
use Rattle.reader.proofs.FourBytes.{bytes_read}
use Rattle.reader.proofs.word.Goals as goal

pub returns : goal.returns
returns c = c.from_be_bytes.ensures ∙ bytes_read c.args.bytes.now c.args.at
