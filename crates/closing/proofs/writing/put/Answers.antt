use Rattle.std.proofs.Common.{◌≡◌, ap, ◌∙◌, false, arith, rules}
use Rattle.samples.specs.HeldStream.{stream_of}
use Rattle.samples.specs.StreamWords.{read}
use Rattle.laws_stack.specs.Places.{written_on}
use Rattle.walk.specs.TwoRings.{listed_at}
use Rattle.closing.specs.TwoChains.{ring_corner, ring-corner-at}
use Rattle.walk.specs.StreamTests.{east_of, north_of}
use Rattle.closing.proofs.writing.put.Goals as goal

pub loop-i-preserved : goal.loop-i-preserved
loop-i-preserved c =
    let inv = c.loop-i.invariant in
    let s = c.listed-s.result in
    let a = c.args in
    -- the corner that is read is the ring's corner i
    let corner : stream_of s ≡ ring_corner a.rings.east.now a.rings.north.now a.rings.east2.now a.rings.north2.now a.w.now a.u a.hi c.loop-i.i =
    c.listed-s.ensures
    ∙ ap (listed_at a.rings.east.now a.rings.north.now a.rings.east2.now a.rings.north2.now false a.w.now) c.place.ensures
    ∙ ring-corner-at a.rings.east.now a.rings.north.now a.rings.east2.now a.rings.north2.now a.w.now a.u a.hi c.loop-i.i in
    let e : read s.east ≡ s.east = search rules in
    let n : read s.north ≡ s.north = search rules in (
      written_on (λ j. (ring_corner a.rings.east.now a.rings.north.now a.rings.east2.now a.rings.north2.now a.w.now a.u a.hi j).east) a.out_east.now inv.0
          (e ∙ ap east_of corner) (omega arith),
      written_on (λ j. (ring_corner a.rings.east.now a.rings.north.now a.rings.east2.now a.rings.north2.now a.w.now a.u a.hi j).north) a.out_north.now inv.1
          (n ∙ ap north_of corner) (omega arith),
    )
