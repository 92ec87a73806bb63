use Rattle.std.proofs.Common.{◌-◌, ◌≤◌, length}
use Rattle.envelope.specs.FirstBest.{First, nearer_entry}
use Rattle.envelope.proofs.turn.entry.Given as goal

-- best is the first place of the corner nearest the entry before place i
abbrev pub invariant-loop-i : goal.invariant-loop-i
invariant-loop-i g l = let xs = g.C.Corners.corners l.ring in record {
  inside : l.i - 1 ≤ length xs - 1;
  first : First nearer_entry xs l.i l.best;
}
