-- The way on to s turns strictly right at the topmost corner, or rises in east where that one is alone.
use Rattle.std.specs.Prelude.{refl, pos}
use Rattle.std.proofs.Common.{sym, ap, ap₂, ◌∙◌, arith}
use Rattle.std.specs.Int.Signed.{lt_z}
use Rattle.rules.specs.Streams.{Stream, side}
use Rattle.samples.specs.HeldStream.{stream_of}
use Rattle.laws_stack.specs.Stack.{stays, stays-one, stays_more}
use Rattle.walk.specs.TwoRings.{listed_at}
use Rattle.walk.proofs.chain.stays.Goals as goal

pub returns-then-top-eq0 : goal.returns-then-top-eq0
unfolding stays
returns-then-top-eq0 c = rw c.if-top-eq0.true refl

pub returns-then-top-eq1 : goal.returns-then-top-eq1
returns-then-top-eq1 c =
    let a = c.args in
    c.west.ensures
    ∙ ap (λ (q : Stream). lt_z q.east a.s.east) c.listed-q.ensures
    ∙ sym (stays-one (listed_at a.rings.east.now a.rings.north.now a.rings.east2.now a.rings.north2.now a.lower a.w.now) a.top (stream_of a.s) c.if-top-eq1.true)

pub returns : goal.returns
returns c =
    let a = c.args in
    c.strictly_right.ensures
    ∙ ap₂ (λ (p q : Stream). lt_z (side p q (stream_of a.s)) (pos 0)) c.listed-p.ensures c.listed-q.ensures
    ∙ sym (stays_more (listed_at a.rings.east.now a.rings.north.now a.rings.east2.now a.rings.north2.now a.lower a.w.now) a.top (stream_of a.s) (omega arith))
