-- Every list that a round keeps carries the bridge. The measure is the list's length.
use Rattle.samples.specs.Sides.{size, seen}
use Rattle.bridge.proofs.Bridging.{Bridging}
use Rattle.bridge.proofs.bridge_of.Given as goal

abbrev pub invariant-loop-left : goal.invariant-loop-left
invariant-loop-left l = Bridging (seen l.fn.s) l.a (size l.fn.s) l.initial.w l.count l.w l.t

abbrev pub decreases-loop-left : goal.decreases-loop-left
decreases-loop-left l = l.t
