use Rattle.std.proofs.Common.{◌≡◌, map, ◌++◌, take, drop, neg_ℤ}
use Rattle.envelope.proofs.turn.negate.Given as goal

-- the first i parts are written with their signs changed, and the rest of the output is as it came
abbrev pub invariant-loop-i : goal.invariant-loop-i
invariant-loop-i l = l.out ≡ map neg_ℤ (take l.i l.parts) ++ drop l.i l.fn.out
