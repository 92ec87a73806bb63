use Rattle.std.specs.Prelude.{◌≡◌, ◌+◌, ◌≤◌, length, List, ℤ, ℕ}
use Rattle.std.proofs.Common.{arith}
use Rattle.rules.specs.Streams.{streams}
use Rattle.rules.specs.Refusals.{done}
use Rattle.rules.specs.Program.{printed_natural, printed_corners, printed}
use Rattle.samples.specs.Placed.{then, put-length, at_front}
use Rattle.samples.specs.Samples.{streams-length}
use Rattle.text.specs.PrintedCorners.{ring-length}
use Rattle.text.proofs.printing.print_ring.Goals as goal

-- how long the text is, over the count that the code prints
long : (es ns : List ℤ) (room : ℕ) → length es ≡ length ns → length (printed (done (streams es ns))) ≤ room →
    5 + length (printed_natural (length es)) + 1 + length (printed_corners (streams es ns)) ≤ room
long es ns room e h = rw (streams-length es ns e) at (rw (ring-length (streams es ns)) at h)

pub put_headed-counted-requires : goal.put_headed-counted-requires
put_headed-counted-requires c =
    let l = long c.args.east.now c.args.north.now (length c.args.out.now) c.requires.east_len c.requires.north_in_bounds in
    omega (arith, l)

pub put_byte-at-requires : goal.put_byte-at-requires
put_byte-at-requires c =
    let l = long c.args.east.now c.args.north.now (length c.args.out.now) c.requires.east_len c.requires.north_in_bounds in
    let p = c.put_headed-counted.ensures in
    omega (arith, l, p.next_is, put-length p)

pub put_corners-requires-clause-north_in_bounds : goal.put_corners-requires-clause-north_in_bounds
put_corners-requires-clause-north_in_bounds c =
    let l = long c.args.east.now c.args.north.now (length c.args.out.now) c.requires.east_len c.requires.north_in_bounds in
    let p = c.put_headed-counted.ensures in
    let q = c.put_byte-at.ensures in
    omega (arith, l, p.next_is, put-length p, q.next_is, put-length q)

pub returns : goal.returns
unfolding printed
returns c =
    let o =
    at_front (printed (done (streams c.args.east.now c.args.north.now))) c.args.out.now
    (rw (streams-length c.args.east.now c.args.north.now c.requires.east_len)
    (then c.put_headed-counted.ensures (then c.put_byte-at.ensures c.put_corners.ensures))) in
    record { count = o.0; content = o.1 }
