use Rattle.std.specs.Prelude.{◌≤◌, length}
use Rattle.std.proofs.Common.{sym, ◌∙◌, arith, rules}
use Rattle.text.specs.Digits.{unsigned_empty, unsigned_long, unsigned_leading, unsigned_taken}
use Rattle.text.proofs.reading.read_unsigned.Goals as goal
use Rattle.text.proofs.reading.read_unsigned.Goals.{else-s-gt1-via-then-s-gt1+else-s-eq48, else-s-gt1-via-else-s-gt1}

pub returns-then-is_empty-clause-value : goal.returns-then-is_empty-clause-value
returns-then-is_empty-clause-value c = sym (unsigned_empty c.args.s.now (search rules))

pub returns-then-s-gt7-clause-value : goal.returns-then-s-gt7-clause-value
returns-then-s-gt7-clause-value c = sym (unsigned_long c.args.s.now (omega arith))

pub returns-then-s-eq48-clause-value : goal.returns-then-s-eq48-clause-value
returns-then-s-eq48-clause-value c = sym (unsigned_leading c.args.s.now (omega arith) c.if-s-eq48.true)

pub returns-clause-value : goal.returns-clause-value
returns-clause-value c =
    let some : 1 ≤ length c.args.s.now = search rules in
    c.read_digits.ensures.value
    ∙ sym (unsigned_taken c.args.s.now (omega arith) (omega arith)
    (elim c.else-s-gt1.branch [
      | else-s-gt1-via-then-s-gt1+else-s-eq48 w ↦ (λ h e. w.if-s-eq48.false e)
      | else-s-gt1-via-else-s-gt1 w ↦ (λ h e. omega arith)
    ]))
