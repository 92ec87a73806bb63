use Rattle.slopes.specs.Fractions.{as_slope}
use Rattle.slopes.specs.Gathering.{alike_answer, picked}
use Rattle.slopes.proofs.pick_slope.Goals as goal

pub returns-in-Some : goal.returns-in-Some
returns-in-Some c = picked c.requires (c.in-Some.ensures.few.back (as_slope c.pick.result) c.pick.ensures)

pub returns-in-None : goal.returns-in-None
returns-in-None c = picked c.requires (alike_answer c.args.q c.bracket.ensures.same c.pick-in-None.ensures)
