-- The text is read as the rules read it, and what they say of it is printed.
use Rattle.std.specs.Prelude.{List, ℤ, pos, replicate}
use Rattle.std.proofs.Common.{arith}
use Rattle.rules.specs.Program.{program}
use Rattle.text.specs.Room.{refusal_room}
use Rattle.program.specs.Told.{answered}
use Rattle.program.specs.Answer.{text_refused, text-told}
use Rattle.program.proofs.answer.answer.Goals as goal

-- the lists as they are lent
abbrev zeros : List ℤ
zeros = replicate 512 (pos 0)

pub print_refusal-requires : goal.print_refusal-requires
print_refusal-requires c = omega (arith, refusal_room c.number.result c.in-Err.refusal.place, c.told-out)

pub returns-in-Err : goal.returns-in-Err
unfolding program
returns-in-Err c =
    let e = c.samples.ensures in
    let r = c.in-Err.refusal in
    let refusal = text_refused c.args.text.now zeros c.samples.new.east zeros c.samples.new.north (omega arith) (omega arith) c.samples.result e.answer
    r c.in-Err.is in
    rw (refusal, ← c.number.ensures) (record { count = c.print_refusal.ensures.count; content = c.print_refusal.ensures.content })

pub returns-in-Ok : goal.returns-in-Ok
unfolding program
returns-in-Ok c =
    let e = c.samples.ensures in
    let t = text-told c.args.text.now zeros c.samples.new.east zeros c.samples.new.north (omega arith) (omega arith) c.samples.result e.answer e.east e.north
    c.in-Ok.count c.in-Ok.is in
    rw (← answered t) (record { count = c.print_ring_of.ensures.count; content = c.print_ring_of.ensures.content })
