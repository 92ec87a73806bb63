use Rattle.std.proofs.Common.{◌≡◌}
use Rattle.door.proofs.Written.{Front}
use Rattle.door.proofs.write_wholes.Given as goal

abbrev pub invariant-loop-i : goal.invariant-loop-i
invariant-loop-i l = l.output ≡ Front l.parts l.initial.output l.i
