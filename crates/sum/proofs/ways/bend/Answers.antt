-- Each step fits, and the last one holds the value.
use Rattle.std.specs.Int.{w64}
use Rattle.whole.specs.Solver.{Ex, var, ◌⊖◌, ◌⊗◌}
use Rattle.whole.specs.Fits.{step_fits, word-is}
use Rattle.laws_sums.specs.Ways.{bend}
use Rattle.sum.specs.Words.{four_near}
use Rattle.sum.proofs.ways.bend.Goals as goal

abbrev first : Ex
first = (var 2 ⊖ var 0) ⊗ (var 7 ⊖ var 5)

abbrev second : Ex
second = (var 3 ⊖ var 1) ⊗ (var 6 ⊖ var 4)

pub overflow_mul-result : goal.overflow_mul-result
overflow_mul-result c = step_fits w64 (four_near c.requires) first tt

pub overflow_mul-result-2 : goal.overflow_mul-result-2
overflow_mul-result-2 c = step_fits w64 (four_near c.requires) second tt

pub overflow_sub-result-5 : goal.overflow_sub-result-5
overflow_sub-result-5 c = step_fits w64 (four_near c.requires) (first ⊖ second) tt

pub returns : goal.returns
unfolding bend
returns c = word-is w64 (four_near c.requires) (first ⊖ second) tt
