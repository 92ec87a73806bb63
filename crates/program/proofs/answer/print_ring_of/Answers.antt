-- The ring entry answers what the rules say of good text, and that is printed.
use Rattle.std.proofs.Common.{arith, rules}
use Rattle.text.specs.Room.{refusal_room}
use Rattle.program.specs.Told.{answered}
use Rattle.program.specs.Answer.{ring_refused, ring-told, printed_few}
use Rattle.program.proofs.answer.print_ring_of.Goals as goal

pub print_refusal-requires : goal.print_refusal-requires
print_refusal-requires c = omega (arith, refusal_room c.number.result c.in-Err.refusal.place, c.told-out)

pub print_ring-requires-clause-north_in_bounds : goal.print_ring-requires-clause-north_in_bounds
print_ring-requires-clause-north_in_bounds c =
    let a = c.args in
    let t = ring-told a.east.now a.north.now c.ring.ensures c.requires.east_len c.requires.east_len_bound (search rules) (search rules) (search rules)
    c.in-Ok.count c.in-Ok.is in
    rw (answered t) (omega (arith, printed_few a.east.now a.north.now c.requires.east_len c.requires.east_len_bound, c.told-out))

pub returns-in-Err : goal.returns-in-Err
returns-in-Err c =
    let a = c.args in
    let refusal = ring_refused a.east.now a.north.now c.ring.ensures c.requires.east_len c.requires.east_len_bound (search rules) (search rules)
    (search rules) c.in-Err.refusal c.in-Err.is in
    rw (refusal, ← c.number.ensures) (record { count = c.print_refusal.ensures.count; content = c.print_refusal.ensures.content })

pub returns-in-Ok : goal.returns-in-Ok
returns-in-Ok c =
    let a = c.args in
    let t = ring-told a.east.now a.north.now c.ring.ensures c.requires.east_len c.requires.east_len_bound (search rules) (search rules) (search rules)
    c.in-Ok.count c.in-Ok.is in
    rw (← answered t) (record { count = c.print_ring.ensures.count; content = c.print_ring.ensures.content })
