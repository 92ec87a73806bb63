-- `picker::scan::count` meets its contract: the loop keeps the counts of the keys in the runs passed.
-- Assumes nothing.
use Rattle.std.proofs.Common.{arith, rules, ◌∙◌}
use Rattle.picker.proofs.Passes.{below_within, above-within, counting_on, counting_all}
use Rattle.picker.proofs.scan.count.Goals as goal

pub overflow_add-below : goal.overflow_add-below
overflow_add-below c = omega (arith, below_within (counting_on c.loop-run.invariant.3 c.in-Some.ensures.steps.1.0 c.count_run-c.ensures))

pub overflow_add-above : goal.overflow_add-above
overflow_add-above c = omega (arith, above-within (counting_on c.loop-run.invariant.3 c.in-Some.ensures.steps.1.0 c.count_run-c.ensures))

pub loop-run-preserved : goal.loop-run-preserved
loop-run-preserved c =
    let steps = c.in-Some.ensures.steps in
    let l = c.loop-run.invariant in
    (search rules, tt, steps.0 ∙ l.2, counting_on l.3 steps.1.0 c.count_run-c.ensures)

pub returns : goal.returns
returns c = counting_all c.loop-run.invariant.3 c.in-None.ensures.steps.1.0
