-- Every corner of the stack is under those that are left and s.
use Rattle.std.specs.Prelude.{ℕ, ◌≤◌, ◌<◌}
use Rattle.laws_outline.specs.Under.{Under}
use Rattle.samples.specs.HeldStream.{stream_of}
use Rattle.laws_stack.specs.Stack.{With, Upto}
use Rattle.walk.specs.TwoRings.{listed_at}
use Rattle.walk.proofs.chain.settled.Given as goal

abbrev pub invariant-loop-s : goal.invariant-loop-s
invariant-loop-s l =
    let f = listed_at l.rings.east.now l.rings.north.now l.rings.east2.now l.rings.north2.now l.lower l.w in
    (l.t ≤ l.top) × ((i : ℕ) → i < l.top → Under (With (Upto f l.t) (stream_of l.s)) (f i))

abbrev pub decreases-loop-s : goal.decreases-loop-s
decreases-loop-s l = l.t
