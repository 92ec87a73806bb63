use Rattle.std.proofs.Common.{sym}
use Rattle.laws_records.specs.RecordCorners.{corners-count}
use Rattle.reader.proofs.StoredCorners.count.Goals as goal

pub returns : goal.returns
returns c = sym (corners-count c.args.self.now.bytes.now)
