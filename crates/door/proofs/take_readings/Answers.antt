use Rattle.std.specs.Prelude.{◌≡◌, Err}
use Rattle.std.proofs.Common.{sym, ◌∙◌, arith, rules}
use Rattle.door.proofs.Entry.{lengths_differ, too_many, bad_reading, short, all_taken}
use Rattle.door.proofs.take_readings.Goals as goal

pub returns-then-count-ns : goal.returns-then-count-ns
returns-then-count-ns c =
    let a = c.args in
    let o = lengths_differ a.es.now a.ns.now a.east.now a.north.now (λ e. omega arith) in
    record { answer = rw c.into.ensures o.0; east = o.1.0; north = o.1.1 }

pub returns-then-count-gt-MOST : goal.returns-then-count-gt-MOST
returns-then-count-gt-MOST c =
    let a = c.args in
    let o = too_many a.es.now a.ns.now a.east.now a.north.now (omega arith) (omega arith) in
    record { answer = rw c.into-then-count-gt-MOST.ensures o.0; east = o.1.0; north = o.1.1 }

pub returns-in_err-first_bad : goal.returns-in_err-first_bad
returns-in_err-first_bad c =
    let a = c.args in
    let r = c.in_err-first_bad.field-0.0 in
    let given : c.from_residual.result ≡ Err r = search rules in
    let o = bad_reading a.es.now a.ns.now a.east.now a.north.now (omega arith) (omega arith) r c.in_err-first_bad.ensures in
    record { answer = rw given o.0; east = o.1.0; north = o.1.1 }

pub returns-then-too_short : goal.returns-then-too_short
returns-then-too_short c =
    let a = c.args in
    let o = short a.es.now a.ns.now a.east.now a.north.now (omega arith) (omega arith) c.in_ok-first_bad.ensures (sym c.too_short.ensures ∙ c.if-too_short.true) in
    record { answer = rw c.into-then-too_short.ensures o.0; east = o.1.0; north = o.1.1 }

pub returns : goal.returns
returns c =
    let a = c.args in
    let o = all_taken a.es.now a.ns.now a.east.now a.north.now (omega arith) (omega arith) c.in_ok-first_bad.ensures (sym c.too_short.ensures ∙ c.if-too_short.false) in
    record { answer = o.0; east = c.write_wholes.ensures ∙ o.1.0; north = c.write_wholes-2.ensures ∙ o.1.1 }
