use Rattle.std.specs.Prelude.{◌≡◌, false, length, ℤ, Err}
use Rattle.std.specs.Int.{w32, w64}
use Rattle.std.proofs.Common.{rules, sym, ap, ◌∙◌, subst, to_z, of_z}
use mir.Val.{SFits}
use Rattle.whole.specs.Solver.{var}
use Rattle.whole.specs.Fits.{[]ʷ, ◌∷ᶜ◌, cast, word-is}
use Rattle.rules.specs.Refusals.{refused}
use Rattle.samples.specs.Answers.{answer_of, number_of}
use Rattle.samples.specs.Positions.{at}
use Rattle.round.specs.Saying.{RoundSays}
use Rattle.round.proofs.Answering.{said_of_tests, refused_promise, passed_promise, ready, as_long, round_asks, round-here}
use Rattle.round.proofs.round.Goals as goal

-- a as 64 bits
a-is : {a : ℤ} → SFits w32 a → to_z w64 (of_z w64 (to_z w32 (of_z w32 a))) ≡ a
a-is h = word-is w64 (cast h ∷ᶜ []ʷ) (var 0) tt

pub round_of-said-requires : goal.round_of-said-requires
round_of-said-requires c =
    let a = c.args in
    let said = λ (z : ℤ). said_of_tests a.east.now a.north.now a.list.now z (length a.scratch.now) in
    let passed = ap said (sym (a-is c.ranges.a)) ∙ sym c.tested.ensures ∙ ap answer_of c.in_ok-tested.was in
    round_asks a.scratch.now (ready a.east.now a.north.now a.list.now a.a (length a.scratch.now) passed) c.write.ensures

pub invariant_of-side : goal.invariant_of-side
invariant_of-side c =
    let a = c.args in
    let said = λ (z : ℤ). said_of_tests a.east.now a.north.now a.list.now z (length a.scratch.now) in
    let passed = ap said (sym (a-is c.ranges.a)) ∙ sym c.tested.ensures ∙ ap answer_of c.in_ok-tested.was in
    record { sampled = (ready a.east.now a.north.now a.list.now a.a (length a.scratch.now) passed).sampled }

pub returns-in_err-tested : goal.returns-in_err-tested
returns-in_err-tested c =
    let a = c.args in
    let said = λ (z : ℤ). said_of_tests a.east.now a.north.now a.list.now z (length a.scratch.now) in
    let r = c.in_err-tested.field-0.0 in
    let e : said a.a ≡ refused (number_of r.reason) r.place = ap said (sym (a-is c.ranges.a)) ∙ sym c.in_err-tested.ensures in
    let is : c.from_residual.result ≡ Err r = search rules in
    rw is (refused_promise a.east.now a.north.now a.list.now a.a a.output.now a.scratch.now e)

pub returns : goal.returns
returns c =
    let a = c.args in
    let said = λ (z : ℤ). said_of_tests a.east.now a.north.now a.list.now z (length a.scratch.now) in
    let passed = ap said (sym (a-is c.ranges.a)) ∙ sym c.tested.ensures ∙ ap answer_of c.in_ok-tested.was in
    let r = ready a.east.now a.north.now a.list.now a.a (length a.scratch.now) passed in
    let o = c.round_of-said in
    let says =
    subst (λ (z : ℤ). RoundSays (at a.east.now a.north.now false) z c.write.new.output (length a.list.now) o.result o.new.w) (a-is c.ranges.a) o.ensures
    in
    passed_promise a.east.now a.north.now a.list.now a.a a.output.now a.scratch.now passed o.result o.new.w
    (o.auto.w ∙ as_long a.scratch.now r c.write.ensures)
    (round-here a.scratch.now r c.write.ensures a.a says)
    c.answered.ensures
