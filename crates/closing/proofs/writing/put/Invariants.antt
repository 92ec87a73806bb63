-- The first i corners are written, and the rest is as it was.
use Rattle.std.proofs.Common.{◌≡◌, ◌++◌, drop}
use Rattle.laws_stack.specs.Places.{listed}
use Rattle.closing.specs.TwoChains.{ring_corner}
use Rattle.closing.proofs.writing.put.Given as goal

abbrev pub invariant-loop-i : goal.invariant-loop-i
invariant-loop-i l =
    (l.out_east ≡ listed (λ j. (ring_corner l.rings.east.now l.rings.north.now l.rings.east2.now l.rings.north2.now l.w l.u l.hi j).east) l.i ++ drop l.i l.initial.out_east)
    × (l.out_north ≡ listed (λ j. (ring_corner l.rings.east.now l.rings.north.now l.rings.east2.now l.rings.north2.now l.w l.u l.hi j).north) l.i ++ drop l.i l.initial.out_north)
