use Rattle.std.proofs.Common.{◌≡◌}
use Rattle.rules.specs.Record.{corners_in}
use Rattle.envelope.specs.Begins.{turned_if}
use Rattle.reader.specs.RecordWritten.{parts_so_far}
use Rattle.reader.proofs.write.Given as goal

-- the parts of the first i corners are written, and the rest of the outputs is as it came
abbrev pub invariant-loop-i : goal.invariant-loop-i
invariant-loop-i l = let xs = turned_if l.about (corners_in l.ring.bytes.now) in record {
  east : l.east ≡ parts_so_far (λ s. s.east) xs l.fn.east l.i;
  north : l.north ≡ parts_so_far (λ s. s.north) xs l.fn.north l.i;
}
