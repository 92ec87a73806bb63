use Rattle.std.specs.Int.{w64}
use Rattle.whole.specs.Solver.{Ex, var, ◌⊕◌, ◌⊗◌}
use Rattle.whole.specs.Fits.{step_fits, word-is}
use Rattle.rules.specs.Use.{set_on}
use Rattle.samples.specs.StreamWords.{two_near}
use Rattle.samples.proofs.streams.set_on.Goals as goal

-- the parts are those of the course, then those of the stream
abbrev set : Ex
set = var 0 ⊗ var 2 ⊕ var 1 ⊗ var 3

pub overflow_add-result : goal.overflow_add-result
overflow_add-result c = step_fits w64 (two_near c.requires) set tt

pub returns : goal.returns
unfolding set_on
returns c = word-is w64 (two_near c.requires) set tt
