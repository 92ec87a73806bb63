-- The next corner is the second way's, or the first's.
use Rattle.std.specs.Prelude.{ℕ, ◌<◌, length}
use Rattle.std.proofs.Common.{sym, subst, arith}
use Rattle.laws_stack.specs.DrawnWalk.{from_one, from_other}
use Rattle.walk.proofs.draw.draw.Goals as goal

pub returns-then-second_next : goal.returns-then-second_next
returns-then-second_next c =
    let a = c.args in
    let y = c.second_next.ensures.yes c.if-second_next.true in
    let below = subst (λ (k : ℕ). k < length a.rings.east2.now) (sym c.place.ensures) (c.requires.0.second.below a.j y.0) in
    record { draws = rw c.place.ensures (from_other y.0 y.1); below = omega (arith, below); one = omega arith }

pub returns : goal.returns
returns c =
    let a = c.args in
    let n = c.second_next.ensures.no c.if-second_next.false in
    let below = subst (λ (k : ℕ). k < length a.rings.east.now) (sym c.place-2.ensures) (c.requires.0.first.below a.i n.0) in
    record { draws = rw c.place-2.ensures (from_one n.0 n.1); below = omega (arith, below); one = omega arith }
