-- A strongest sum on one of the four courses is beyond the limit, or none is.
use Rattle.std.specs.Prelude.{ℕ, zero, suc, ◌<◌, pos, negsuc, List, [], ◌∷◌}
use Rattle.std.proofs.Common.{sym, ◌∙◌, rules, arith, below_more}
use Rattle.samples.specs.Positions.{Near}
use Rattle.samples.specs.HeldStream.{stream_of}
use Rattle.samples.specs.declared.streams.Stream.{Stream}
use Rattle.sum.specs.Reaches.{given_beyond, all_inside}
use Rattle.sum.proofs.reach.too_far.Invariants.{course_at}
use Rattle.sum.proofs.reach.too_far.Goals as goal

abbrev plain : List Stream
plain =
    record { east = pos 1; north = pos 0 }
    ∷ record { east = negsuc 0; north = pos 0 }
    ∷ record { east = pos 0; north = pos 1 }
    ∷ record { east = pos 0; north = negsuc 0 }
    ∷ []

plain_near : (k : ℕ) → k < 4 → Near (stream_of (course_at plain k))
plain_near zero h = search rules
plain_near (suc zero) h = search rules
plain_near (suc (suc zero)) h = search rules
plain_near (suc (suc (suc zero))) h = search rules
plain_near (suc (suc (suc (suc k)))) h = absurd (omega arith)

pub outermost-requires : goal.outermost-requires
outermost-requires c = plain_near c.loop-course.course-index c.loop-course-test.true

pub loop-course-preserved : goal.loop-course-preserved
loop-course-preserved c =
    below_more _ c.loop-course.course-index c.loop-course.invariant
    (record { s = stream_of c.outermost.result; outermost = c.outermost.ensures; inside = sym c.beyond.ensures ∙ c.if-beyond.false })

pub returns-then-beyond : goal.returns-then-beyond
returns-then-beyond c = sym (given_beyond c.outermost.ensures (sym c.beyond.ensures ∙ c.if-beyond.true))

pub returns : goal.returns
returns c =
    let inv = c.loop-course.invariant in
    sym (all_inside (inv 0 (omega arith)) (inv 1 (omega arith)) (inv 2 (omega arith)) (inv 3 (omega arith)))
