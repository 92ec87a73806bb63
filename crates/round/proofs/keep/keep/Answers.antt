use Rattle.std.specs.Prelude.{◌≡◌, ℕ, ◌+◌, ◌*◌, ◌<◌}
use Rattle.std.proofs.Common.{arith, sym, subst}
use Rattle.slopes.specs.Fractions.{as_slope}
use Rattle.samples.specs.Sides.{seen, size}
use Rattle.samples.specs.Samples.{listed_at}
use Rattle.round.specs.Keeping.{towards}
use Rattle.round.proofs.Fronting.{fronting_more, fronting_all, fronting_odd, here, next}
use Rattle.round.proofs.keep.keep.Goals as goal

pub of_pair-g-requires : goal.of_pair-g-requires
of_pair-g-requires c =
    let a = c.args in
    let places = seen a.side in
    let tops = towards a.west (as_slope a.k) in
    let g = c.loop-i.invariant in
    record {
      first_below = subst (λ (x : ℕ). x < size a.side) (sym (here places tops a.w.now g)) (listed_at c.requires.listed (2 * c.loop-i.i) (omega arith));
      second_below =
          subst (λ (x : ℕ). x < size a.side) (sym (next places tops a.w.now g)) (listed_at c.requires.listed (2 * c.loop-i.i + 1) (omega arith));
      near = c.requires.near;
    }

pub loop-i-preserved : goal.loop-i-preserved
loop-i-preserved c =
    let a = c.args in
    let g = c.of_pair-g in
    let two : 2 * (c.loop-i.i + 1) ≡ 2 * c.loop-i.i + 2 = omega arith in
    rw two
    (fronting_more
    (seen a.side)
    (towards a.west (as_slope a.k))
    a.w.now
    c.loop-i.invariant
    (omega arith)
    g.result.first
    g.result.second
    g.ensures)

pub returns-then-w-eq1 : goal.returns-then-w-eq1
returns-then-w-eq1 c =
    let a = c.args in
    fronting_odd (seen a.side) (towards a.west (as_slope a.k)) a.w.now c.loop-i.invariant (omega arith) (omega arith)

pub returns-else-w-eq1 : goal.returns-else-w-eq1
returns-else-w-eq1 c =
    let a = c.args in
    fronting_all (seen a.side) (towards a.west (as_slope a.k)) a.w.now c.loop-i.invariant (omega arith)
