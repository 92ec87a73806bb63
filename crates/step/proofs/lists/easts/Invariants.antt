use Rattle.std.proofs.Common.{◌≡◌, map, take}
use Rattle.std.proofs.Math.Seq.{paste}
use Rattle.picker.specs.Keys.{key_of}
use Rattle.samples.specs.Positions.{east_of}
use Rattle.step.proofs.lists.easts.Given as goal

abbrev pub invariant-loop-i : goal.invariant-loop-i
invariant-loop-i l = l.w ≡ paste l.fn.w l.fn.t (map (λ x. key_of (east_of l.fn.e x)) (take l.fn.t l.fn.w)) l.i
