use Rattle.std.proofs.Common.{arith}
use Rattle.rules.specs.Refusals.{refused}
use Rattle.rules.specs.Program.{printed}
use Rattle.samples.specs.Placed.{then, put-length, at_front}
use Rattle.text.specs.PrintedCorners.{refusal_length}
use Rattle.text.proofs.printing.print_refusal.Goals as goal

pub put_headed-numbered-requires : goal.put_headed-numbered-requires
put_headed-numbered-requires c = omega (arith, refusal_length c.args.number c.args.place, c.requires)

pub put_byte-spaced-requires : goal.put_byte-spaced-requires
put_byte-spaced-requires c =
    let p = c.put_headed-numbered.ensures in
    omega (arith, refusal_length c.args.number c.args.place, c.requires, p.next_is, put-length p)

pub put_natural-placed-requires : goal.put_natural-placed-requires
put_natural-placed-requires c =
    let p = c.put_headed-numbered.ensures in
    let q = c.put_byte-spaced.ensures in
    omega (arith, refusal_length c.args.number c.args.place, c.requires, p.next_is, put-length p, q.next_is, put-length q)

pub put_byte-requires : goal.put_byte-requires
put_byte-requires c =
    let p = c.put_headed-numbered.ensures in
    let q = c.put_byte-spaced.ensures in
    let r = c.put_natural-placed.ensures in
    omega (
      arith,
      refusal_length c.args.number c.args.place,
      c.requires,
      p.next_is,
      put-length p,
      q.next_is,
      put-length q,
      r.next_is,
      put-length r,
    )

pub returns : goal.returns
unfolding printed
returns c =
    let o =
    at_front (printed (refused c.args.number c.args.place)) c.args.out.now
    (then (then c.put_headed-numbered.ensures (then c.put_byte-spaced.ensures c.put_natural-placed.ensures)) c.put_byte.ensures) in
    record { count = o.0; content = o.1 }
