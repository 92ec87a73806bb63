use Rattle.std.proofs.Common.{◌≡◌, sym, ap, ℕ, rules, Result, Err}
use Rattle.rules.specs.Entries.{record_answer}
use Rattle.samples.specs.Answers.{answer_of}
use Rattle.samples.specs.declared.refusals.Refusal.{Refusal}
use Rattle.reader.specs.RecordAnswers.{CornersRead, corners_refused}
use Rattle.reader.specs.ReadTests.{after_frame, framed}
use Rattle.reader.proofs.read_record.Goals as goal

pub returns-in_err-record : goal.returns-in_err-record
returns-in_err-record c =
    let a = c.args in
    let e : c.from_residual.result ≡ Err c.in_err-record.field-0.0 = search rules in
    let r : CornersRead (record_answer a.bytes.now a.east.now a.north.now) a.east.now a.north.now c.from_residual.result a.east.now a.north.now =
    corners_refused (ap (λ (r : Result ℕ Refusal). answer_of r) e) (after_frame a.bytes.now a.east.now a.north.now c.in_err-record.ensures) in
    record { answer = r.answer; east = r.east_after; north = r.north_after }

pub returns : goal.returns
returns c =
    let a = c.args in
    let r = rw (framed a.bytes.now a.east.now a.north.now (sym c.in_ok-record.ensures)) at c.read_corners.ensures in
    record { answer = r.answer; east = r.east_after; north = r.north_after }
