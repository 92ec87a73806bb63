use Rattle.std.proofs.Common.{sym, ap₂, ◌∙◌, List, ℕ, ◌+◌, ◌*◌, ◌≤◌, ◌<◌, length, arith, w32}
use Rattle.whole.specs.Fits.{cast_read}
use Rattle.rules.specs.Streams.{stream}
use Rattle.rules.specs.Record.{corners_in}
use Rattle.laws_records.specs.RecordCorners.{corners-count, corners-sample}
use Rattle.reader.proofs.StoredCorners.corner.Goals as goal

inside : (cs : List ℕ) (i : ℕ) → i < length (corners_in cs) → 8 * i + 8 ≤ length cs
inside cs i h = omega (arith, corners-count cs)

pub overflow_mul-at : goal.overflow_mul-at
overflow_mul-at c = omega (arith, inside c.args.self.now.bytes.now c.args.i c.requires)

pub part-requires : goal.part-requires
part-requires c = omega (arith, inside c.args.self.now.bytes.now c.args.i c.requires)

pub overflow_add-at : goal.overflow_add-at
overflow_add-at c = omega (arith, inside c.args.self.now.bytes.now c.args.i c.requires)

pub part-requires-2 : goal.part-requires-2
part-requires-2 c = omega (arith, inside c.args.self.now.bytes.now c.args.i c.requires)

pub returns : goal.returns
returns c =
    let e = c.part in
    let n = c.part-2 in
    let east = (cast_read w32 e.result e.type_inv).same ∙ e.ensures in
    let north = (cast_read w32 n.result n.type_inv).same ∙ n.ensures in
    ap₂ stream east north ∙ sym (corners-sample c.args.self.now.bytes.now c.args.i c.requires)
