-- The walk over both ways, from its start to its end.
use Rattle.std.specs.Prelude.{◌≡◌, ◌+◌}
use Rattle.walk.specs.Ways.{Walking}
use Rattle.walk.proofs.chain.chain.Given as goal

abbrev pub invariant-loop-k : goal.invariant-loop-k
invariant-loop-k l =
    (l.i + l.j ≡ l._k) × Walking l.rings.east.now l.rings.north.now l.rings.east2.now l.rings.north2.now l.lower l.a l.b l.w l.i l.j l.top
