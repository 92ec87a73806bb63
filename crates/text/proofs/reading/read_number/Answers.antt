use Rattle.std.proofs.Common.{refl, rules}
use Rattle.text.specs.Digits.{number_stripped, number_unstripped}
use Rattle.text.proofs.reading.read_number.Goals as goal

pub returns-in_err-n-in-Some : goal.returns-in_err-n-in-Some
returns-in_err-n-in-Some c =
    let p = c.in-Some.ensures.cases in
    rw (c.from_residual.ensures, number_stripped c.args.s.now c.in-Some.digits.now p.0 p.1, ← c.in_err-n-in-Some.ensures.value) refl

pub returns-then-n-eq0 : goal.returns-then-n-eq0
returns-then-n-eq0 c =
    let p = c.in-Some.ensures.cases in
    rw (number_stripped c.args.s.now c.in-Some.digits.now p.0 p.1, ← c.in_ok-n-in-Some.ensures.value, c.if-n-eq0.true) refl

pub returns-else-n-eq0 : goal.returns-else-n-eq0
returns-else-n-eq0 c =
    let p = c.in-Some.ensures.cases in
    rw (number_stripped c.args.s.now c.in-Some.digits.now p.0 p.1, ← c.in_ok-n-in-Some.ensures.value) (search rules)

pub returns-in_err-n-in-None : goal.returns-in_err-n-in-None
returns-in_err-n-in-None c =
    rw (c.from_residual-in_err-n-in-None.ensures, number_unstripped c.args.s.now c.in-None.ensures.cases, ← c.in_err-n-in-None.ensures.value) refl

pub returns-in_ok-n-in-None : goal.returns-in_ok-n-in-None
returns-in_ok-n-in-None c =
    rw (number_unstripped c.args.s.now c.in-None.ensures.cases, ← c.in_ok-n-in-None.ensures.value) (search rules)
