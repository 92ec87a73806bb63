-- Each return is the rules' tests in the order in which the code makes them.
use Rattle.std.specs.Prelude.{◌≡◌, ℕ, ◌+◌, ◌*◌, Bool, List, map, length, ℤ}
use Rattle.std.specs.Int.{w64}
use Rattle.std.proofs.Common.{arith, rules, sym, ap, ◌∙◌, eq-eqb, lt-ltb, le-ltb, to_z, of_z}
use Rattle.rules.specs.Streams.{most, streams, sample}
use Rattle.rules.specs.Bridge.{spans}
use Rattle.rules.specs.Refusals.{refused}
use Rattle.samples.specs.Answers.{number_of}
use Rattle.samples.specs.Positions.{east_of, easts_span}
use Rattle.samples.specs.Samples.{place_inside, place_outside, unlisted_inside, unlisted_outside, listed, sample_list_span}
use Rattle.round.proofs.tested.Goals as goal

-- what the code says of the easts is said of the samples
spans-said : (es ns : List ℤ) (list : List ℕ) {a z : ℤ} → length es ≡ length ns → z ≡ a → {said b : Bool}
    → said ≡ easts_span z (map (east_of es) list) → said ≡ b → spans a (map (sample (streams es ns)) list) ≡ b
spans-said es ns list {a} h read is e =
    sample_list_span a es ns list h ∙ ap (λ (z : ℤ). easts_span z (map (east_of es) list)) (sym read) ∙ sym is ∙ e

pub returns-then-place-count : goal.returns-then-place-count
returns-then-place-count c =
    let es = c.args.east.now in
    let ns = c.args.north.now in
    let list = c.args.list.now in
    let even = c.if-count-north.false in
    let place = c.first_beyond-place.ensures in
    simp (
      eq-eqb (length es) (length ns) even,
      le-ltb most (length es) (omega arith),
      le-ltb most (length list) (omega arith),
      place_inside es ns even place (omega arith),
    )
    (ap (λ r. refused (number_of r.reason) r.place) c.at.ensures ∙ ap (refused 3) place)

pub returns-then-unlisted-list : goal.returns-then-unlisted-list
returns-then-unlisted-list c =
    let es = c.args.east.now in
    let ns = c.args.north.now in
    let list = c.args.list.now in
    let even = c.if-count-north.false in
    let first = c.first_unlisted-unlisted.ensures in
    simp (
      eq-eqb (length es) (length ns) even,
      le-ltb most (length es) (omega arith),
      le-ltb most (length list) (omega arith),
      place_outside es ns even c.first_beyond-place.ensures (omega arith),
      unlisted_inside (length es) list first (omega arith),
    )
    (ap (λ r. refused (number_of r.reason) r.place) c.at-then-unlisted-list.ensures ∙ ap (refused 7) first)

pub returns-then-room-list : goal.returns-then-room-list
returns-then-room-list c =
    let es = c.args.east.now in
    let ns = c.args.north.now in
    let list = c.args.list.now in
    let even = c.if-count-north.false in
    simp (
      eq-eqb (length es) (length ns) even,
      le-ltb most (length es) (omega arith),
      le-ltb most (length list) (omega arith),
      place_outside es ns even c.first_beyond-place.ensures (omega arith),
      unlisted_outside (length es) list c.first_unlisted-unlisted.ensures (omega arith),
      lt-ltb c.args.room (16 * length list + 64) (omega arith),
    )
    (ap (λ r. refused (number_of r.reason) r.place) c.into-then-room-list.ensures)

pub list_spans-requires : goal.list_spans-requires
list_spans-requires c =
    let es = c.args.east.now in
    let list = c.args.list.now in
    listed (length es) list (unlisted_outside (length es) list c.first_unlisted-unlisted.ensures (omega arith))

pub returns-then-not-list_spans : goal.returns-then-not-list_spans
returns-then-not-list_spans c =
    let es = c.args.east.now in
    let ns = c.args.north.now in
    let list = c.args.list.now in
    let even = c.if-count-north.false in
    let read : to_z w64 (of_z w64 c.args.a) ≡ c.args.a = search rules in
    simp (
      eq-eqb (length es) (length ns) even,
      le-ltb most (length es) (omega arith),
      le-ltb most (length list) (omega arith),
      place_outside es ns even c.first_beyond-place.ensures (omega arith),
      unlisted_outside (length es) list c.first_unlisted-unlisted.ensures (omega arith),
      le-ltb c.args.room (16 * length list + 64) (omega arith),
      spans-said es ns list even read c.list_spans.ensures c.if-not-list_spans.true,
    )
    (ap (λ r. refused (number_of r.reason) r.place) c.into-then-not-list_spans.ensures)

pub returns : goal.returns
returns c =
    let es = c.args.east.now in
    let ns = c.args.north.now in
    let list = c.args.list.now in
    let even = c.if-count-north.false in
    let read : to_z w64 (of_z w64 c.args.a) ≡ c.args.a = search rules in
    simp (
      eq-eqb (length es) (length ns) even,
      le-ltb most (length es) (omega arith),
      le-ltb most (length list) (omega arith),
      place_outside es ns even c.first_beyond-place.ensures (omega arith),
      unlisted_outside (length es) list c.first_unlisted-unlisted.ensures (omega arith),
      le-ltb c.args.room (16 * length list + 64) (omega arith),
      spans-said es ns list even read c.list_spans.ensures c.if-not-list_spans.false,
    )
