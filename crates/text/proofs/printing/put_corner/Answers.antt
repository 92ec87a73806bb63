use Rattle.std.proofs.Common.{to_z-of_z}
use Rattle.samples.specs.Placed.{then}
use Rattle.text.proofs.printing.put_corner.Goals as goal

pub returns : goal.returns
returns c =
    let e = rw (to_z-of_z c.ranges.east) at c.put_whole-easted.ensures in
    let n = rw (to_z-of_z c.ranges.north) at c.put_whole-northed.ensures in
    then (then e (then c.put_byte-spaced.ensures n)) c.put_byte.ensures
