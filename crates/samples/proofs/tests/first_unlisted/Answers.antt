-- The loop has passed the numbers below the count.
use Rattle.std.proofs.Common.{leb, get_or, le-leb, arith}
use Rattle.std.proofs.lemmas.Bool.{lt-leb}
use Rattle.samples.specs.Scans.{passed_more, passed_here, passed_all}
use Rattle.samples.proofs.tests.first_unlisted.Goals as goal

pub returns-then-count-list : goal.returns-then-count-list
returns-then-count-list c =
    let a = c.args in
    passed_here (λ x. leb a.count x) 0 a.list.now c.loop-i.i (omega arith) (le-leb a.count (get_or a.list.now c.loop-i.i 0) (omega arith)) c.loop-i.invariant

pub loop-i-preserved : goal.loop-i-preserved
loop-i-preserved c =
    let a = c.args in
    passed_more (λ x. leb a.count x) 0 a.list.now c.loop-i.i (omega arith) (lt-leb a.count (get_or a.list.now c.loop-i.i 0) (omega arith)) c.loop-i.invariant

pub returns : goal.returns
returns c = let here = passed_all (λ x. leb c.args.count x) c.loop-i-test.false c.loop-i.invariant in omega (arith, here)
