-- `picker::keys::load` meets its contract.
-- Assumes nothing.
use Rattle.std.proofs.Common.{arith, ap, ◌∙◌, rules, FitsSigned, w32, get_or, pos}
use Rattle.std.proofs.Math.Facts.{to_z-of_z}
use Rattle.picker.specs.Keys.{key_of}
use Rattle.picker.proofs.Loads.{loading_more}
use Rattle.picker.proofs.keys.load.Goals as goal

pub loop-i-preserved : goal.loop-i-preserved
loop-i-preserved c =
    let small : FitsSigned w32 (get_or c.args.xs.now c.loop-i.i (pos 0)) = search rules in
    loading_more c.args.xs.now (omega arith) (omega arith) small.sfits (c.key.ensures ∙ ap key_of (to_z-of_z small)) c.loop-i.invariant
