use Rattle.std.proofs.Common.{arith}
use Rattle.sum.specs.Stretches.{pair_next, next_steps, end-steps}
use Rattle.sum.specs.Corners.{both_of}
use Rattle.sum.proofs.follow.Together.step.Goals as goal

pub returns-then-at-self : goal.returns-then-at-self
returns-then-at-self c = (pair_next (both_of c.args.self) c.next.ensures, next_steps (both_of c.args.self) c.next.ensures)

pub returns : goal.returns
returns c = (c.requires, end-steps (both_of c.args.self) c.requires (omega arith))
