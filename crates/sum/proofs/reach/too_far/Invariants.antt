-- No sum that was looked at is beyond the limit.
use Rattle.std.specs.Prelude.{ℕ, ◌<◌, pos, List}
use Rattle.std.proofs.Math.ListN.{get_or}
use Rattle.rules.specs.Streams.{streams}
use Rattle.samples.specs.declared.streams.Stream.{Stream}
use Rattle.sum.specs.Reaches.{Inside}
use Rattle.sum.proofs.reach.too_far.Given as goal

-- the course at a place
abbrev pub course_at : List Stream → ℕ → Stream
course_at courses k = get_or courses k (record { east = pos 0; north = pos 0 })

abbrev pub invariant-loop-course : goal.invariant-loop-course
invariant-loop-course l =
    (k : ℕ) → k < l.course-index
    → Inside (course_at l.course-items k).east (course_at l.course-items k).north (streams l.first.east.now l.first.north.now)
    (streams l.second.east.now l.second.north.now)
