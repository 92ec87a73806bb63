use Rattle.std.proofs.Common.{◌≡◌, rules}
use Rattle.rules.specs.Refusals.{refused}
use Rattle.samples.specs.Answers.{answer_of, number_of}
use Rattle.chains.proofs.Answers.{refused_early, answered}
use Rattle.chains.proofs.chains.Goals as goal

pub returns-in_err-counts : goal.returns-in_err-counts
returns-in_err-counts c =
    let a = c.args in
    let r = c.in_err-counts.field-0.0 in
    let e : answer_of c.from_residual.result ≡ refused (number_of r.reason) r.place = search rules in
    refused_early a.east.now a.north.now a.upper.now a.lower.now a.scratch.now c.in_err-counts.ensures e

pub returns : goal.returns
returns c =
    let a = c.args in
    answered a.east.now a.north.now a.upper.now a.lower.now a.scratch.now c.in_ok-counts.ensures c.sides_of.auto.scratch c.both.ensures
