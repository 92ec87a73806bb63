-- Each return is the rules' tests in the order in which the code makes them.
use Rattle.std.proofs.Common.{ap, ◌∙◌, length, eq-eqb, le-ltb}
use Rattle.rules.specs.Streams.{most}
use Rattle.rules.specs.Refusals.{refused}
use Rattle.samples.specs.Answers.{number_of}
use Rattle.samples.specs.Samples.{place_inside, place_outside, sampled}
use Rattle.samples.proofs.listed.Samples.tested.Goals as goal

pub returns-then-place-count : goal.returns-then-place-count
returns-then-place-count c =
    let es = c.args.east.now in
    let ns = c.args.north.now in
    let even = c.if-count-north.false in
    let place = c.first_beyond-place.ensures in
    simp (
      eq-eqb (length es) (length ns) even,
      le-ltb most (length es) c.if-count-gt-MOST.false,
      place_inside es ns even place c.if-place-count.true,
    )
    (ap (λ r. refused (number_of r.reason) r.place) c.at.ensures ∙ ap (refused 3) place)

pub invariant_of-result : goal.invariant_of-result
invariant_of-result c =
    let es = c.args.east.now in
    let ns = c.args.north.now in
    let even = c.if-count-north.false in
    record { sampled = sampled es ns even (place_outside es ns even c.first_beyond-place.ensures c.if-place-count.false) }

pub returns : goal.returns
returns c =
    let es = c.args.east.now in
    let ns = c.args.north.now in
    let even = c.if-count-north.false in
    simp (
      eq-eqb (length es) (length ns) even,
      le-ltb most (length es) c.if-count-gt-MOST.false,
      place_outside es ns even c.first_beyond-place.ensures c.if-place-count.false,
    )
