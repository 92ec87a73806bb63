-- `picker::five::middle_of` meets its contract, by `middle_of_five`.
-- Assumes nothing.
use Rattle.picker.proofs.Fives.{middle_of_five}
use Rattle.picker.proofs.five.middle_of.Goals as goal

pub returns : goal.returns
returns c = cc (middle_of_five c.args.a c.args.b c.args.c c.args.d c.args.e)
