use Rattle.slopes.specs.Gathering.{Gathering}
use Rattle.slopes.proofs.gather.middles.Given as goal

-- behind the slopes stand i of them
abbrev pub invariant-loop-i : goal.invariant-loop-i
invariant-loop-i l = Gathering l.n l.fn.w l.w l.i
