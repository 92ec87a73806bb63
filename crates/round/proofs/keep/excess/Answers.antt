use Rattle.std.specs.Int.{w64}
use Rattle.whole.specs.Solver.{Ex, var, ◌⊖◌, ◌⊗◌}
use Rattle.whole.specs.Fits.{step_fits, word-is}
use Rattle.round.proofs.RoundWords.{way, climb, excess_leaves}
use Rattle.round.proofs.keep.excess.Goals as goal

-- the whole expression
abbrev whole : Ex
whole = climb ⊗ var 4 ⊖ var 5 ⊗ way

pub overflow_mul-result : goal.overflow_mul-result
overflow_mul-result c = step_fits w64 (excess_leaves c.requires) (climb ⊗ var 4) tt

pub overflow_mul-result-2 : goal.overflow_mul-result-2
overflow_mul-result-2 c = step_fits w64 (excess_leaves c.requires) (var 5 ⊗ way) tt

pub overflow_sub-result-3 : goal.overflow_sub-result-3
overflow_sub-result-3 c = step_fits w64 (excess_leaves c.requires) whole tt

pub returns : goal.returns
returns c = word-is w64 (excess_leaves c.requires) whole tt
