-- The picker and the pivot finder, which call each other, meet their contracts.
-- Assumes nothing.
use Rattle.std.proofs.Common.{arith}
use Rattle.laws_ranks.specs.Middles.{middle_of_middles_splits}
use Rattle.laws_ranks.specs.Numbers.{natural_order}
use Rattle.picker.proofs.Fives.{picked-middle}
use Rattle.picker.proofs.+pick_key_pivot.Goals as goal

pub pick_key-narrow-requires : goal.pick_key-narrow-requires
pick_key-narrow-requires t c =
    record {
      least = c.requires.least;
      most = c.requires.most;
      splits = rw c.pivot-p.ensures (middle_of_middles_splits natural_order 0 c.args.keys.now (omega arith));
    }

pub pivot-returns : goal.pivot-returns
pivot-returns t c = picked-middle c.args.keys.now (omega arith) (rw c.middles.ensures at c.pick_key.ensures)
