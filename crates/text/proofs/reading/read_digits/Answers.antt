use Rattle.std.specs.Prelude.{◌≡◌, ◌<◌, ◌-◌, length, get_or}
use Rattle.std.proofs.Common.{refl, sym, ◌∙◌, arith, rules}
use borrow.Author.Tests.{tests}
use lib.Seq.{drop-length}
use Rattle.rules.specs.Lists.{all_of}
use Rattle.rules.specs.Program.{decimal}
use Rattle.text.specs.Digits.{digit_here, digit_bad, ten_more, at_most_seven}
use Rattle.text.proofs.reading.read_digits.Goals as goal

pub returns-then-not-is_ascii_digit-clause-value : goal.returns-then-not-is_ascii_digit-clause-value
returns-then-not-is_ascii_digit-clause-value c =
    let i = c.loop-b.b-index in
    sym (c.loop-b.invariant.1 ∙ digit_bad c.args.s.now i (omega arith) c.loop-b.n (sym c.is_ascii_digit.ensures.value ∙ c.if-not-is_ascii_digit.true))

pub loop-b-preserved : goal.loop-b-preserved
loop-b-preserved c =
    let s = c.args.s.now in
    let i = c.loop-b.b-index in
    let digit = sym c.is_ascii_digit.ensures.value ∙ c.if-not-is_ascii_digit.false in
    let small : get_or s i 0 - 48 < 10 = search (rules, tests) in (
      ten_more i c.loop-b.n (get_or s i 0 - 48) c.loop-b.invariant.0 small,
      c.loop-b.invariant.1 ∙ digit_here s i (omega arith) c.loop-b.n digit,
    )

pub returns : goal.returns
unfolding all_of decimal
returns c =
    let s = c.args.s.now in
    let e : c.loop-b.b-index ≡ length s = omega arith in
    record {
      value = sym (c.loop-b.invariant.1 ∙ rw (e, drop-length) refl);
      small = omega (arith, c.loop-b.invariant.0, at_most_seven c.loop-b.b-index (omega arith));
    }
