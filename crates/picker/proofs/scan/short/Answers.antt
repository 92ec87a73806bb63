-- `picker::scan::short` meets its contract: what has the rank that is still sought among the keys that are left has the rank r among all.
-- Assumes nothing.
use Rattle.std.proofs.Common.{◌+◌, ◌-◌, arith, length}
use Rattle.std.proofs.lemmas.List.{length-take-le}
use Rattle.picker.proofs.Passes.{taken_out, last_out}
use Rattle.picker.proofs.scan.short.Goals as goal

pub loop-taken-preserved : goal.loop-taken-preserved
loop-taken-preserved c =
    let fits = length-take-le (length c.args.keys.now + 1 - c.loop-taken.taken) c.loop-taken.keys in
    taken_out c.loop-taken.keys c.least.new.keys (length c.args.keys.now) c.loop-taken.taken
    (omega arith)
    (omega arith)
    (omega arith)
    c.loop-taken.auto.keys
    c.loop-taken.invariant
    (omega (arith, fits (omega arith)))
    c.least.ensures

pub returns : goal.returns
returns c = last_out c.loop-taken.keys (length c.args.keys.now) (omega arith) c.loop-taken.invariant c.least-2.ensures
