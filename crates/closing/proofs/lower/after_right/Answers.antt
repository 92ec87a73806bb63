use Rattle.std.proofs.Common.{refl, sym, ◌∙◌, ◌+◌, ◌-◌, arith}
use Rattle.closing.proofs.lower.after_right.Goals as goal

pub same_at-requires : goal.same_at-requires
same_at-requires c =
    let a = c.args in
    let p = c.requires in
    let room = p.0.stand.room in record {
      first = omega arith;
      first_below = p.0.stand.below (a.u - 1) (omega arith);
      second = omega arith;
      second_below = p.0.stand.below (a.u + (a.l - 1)) (omega arith);
    }

pub returns-then-same_at : goal.returns-then-same_at
returns-then-same_at c = rw (sym c.same_at.ensures ∙ c.if-same_at.true) refl

pub returns : goal.returns
returns c = rw (sym c.same_at.ensures ∙ c.if-same_at.false) refl
