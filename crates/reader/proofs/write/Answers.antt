use Rattle.std.proofs.Common.{◌≡◌, ap, ap₂, ◌∙◌, List, set, ℤ, arith, w32, rules}
use mir.Val.{to_z, of_z}
use Rattle.rules.specs.Streams.{Stream}
use Rattle.rules.specs.Record.{corners_in}
use Rattle.envelope.specs.Begins.{turned_if, begins-length}
use Rattle.reader.specs.RecordWritten.{parts_more}
use Rattle.reader.proofs.write.Goals as goal

pub loop-i-preserved : goal.loop-i-preserved
loop-i-preserved c =
    let a = c.args in
    let i = c.loop-i.i in
    let l = c.loop-i.invariant in
    let ring = turned_if a.about (corners_in a.ring.now.bytes.now) in
    let count = begins-length c.requires.begins in
    let k = c.turned_corner-c in
    let east_is : to_z w32 (of_z w32 k.result.east) ≡ k.result.east = search rules in
    let north_is : to_z w32 (of_z w32 k.result.north) ≡ k.result.north = search rules in
    record {
      east =
          ap₂ (λ (es : List ℤ) (e : ℤ). set es i e) l.east (east_is ∙ ap (λ (p : Stream). p.east) k.ensures)
          ∙ parts_more (λ p. p.east) ring a.east.now i (omega arith) (omega (arith, c.requires.room.east_room));
      north =
          ap₂ (λ (ns : List ℤ) (n : ℤ). set ns i n) l.north (north_is ∙ ap (λ (p : Stream). p.north) k.ensures)
          ∙ parts_more (λ p. p.north) ring a.north.now i (omega arith) (omega (arith, c.requires.room.north_room));
    }
