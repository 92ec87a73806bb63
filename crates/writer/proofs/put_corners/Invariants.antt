use Rattle.envelope.specs.Begins.{turned_if}
use Rattle.writer.specs.Putting.{Corners}
use Rattle.writer.proofs.put_corners.Given as goal

-- the first i corners are put
abbrev pub invariant-loop-i : goal.invariant-loop-i
invariant-loop-i g l = Corners (turned_if l.about (g.C.Corners.corners l.ring)) l.from l.i l.place l.fn.out l.out
