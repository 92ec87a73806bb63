use Rattle.std.specs.Prelude.{length}
use Rattle.std.proofs.Common.{refl, sym, ◌∙◌, rules}
use Rattle.samples.specs.Answers.{number_of}
use Rattle.samples.specs.InOrder.{fits_both}
use Rattle.text.specs.TextLines.{outcome_refused, short, fit, fit_count}
use Rattle.text.proofs.reading.samples.Goals as goal

pub returns-in_err-count : goal.returns-in_err-count
returns-in_err-count c =
    let a = c.args in
    let r = c.in_err-count.field-0.0 in
    rw (outcome_refused a.text.now a.east.now a.north.now (number_of r.reason) r.place c.in_err-count.ensures)
    (record { answer = search rules; east = refl; north = refl })

pub returns-then-too_short : goal.returns-then-too_short
returns-then-too_short c =
    let a = c.args in
    rw (c.into.ensures, short a.text.now a.east.now a.north.now c.in_ok-count.count c.in_ok-count.ensures (sym c.too_short.ensures ∙ c.if-too_short.true))
    (record { answer = refl; east = refl; north = refl })

pub write-requires : goal.write-requires
write-requires c =
    let a = c.args in
    let n = c.in_ok-count.count in
    let r = fits_both (length a.east.now) (length a.north.now) n (sym c.too_short.ensures ∙ c.if-too_short.false) in
    fit a.text.now a.east.now a.north.now n c.in_ok-count.ensures r.0 r.1

pub returns-clause-answer : goal.returns-clause-answer
returns-clause-answer c =
    let a = c.args in
    let n = c.in_ok-count.count in
    let r = fits_both (length a.east.now) (length a.north.now) n (sym c.too_short.ensures ∙ c.if-too_short.false) in
    fit_count a.text.now a.east.now a.north.now n c.in_ok-count.ensures r.0 r.1
