use Rattle.std.proofs.Common.{◌≡◌, sym, ap, ap₂, ◌∙◌, subst, [], ◌∷◌, ◌&&◌, ℕ, ℤ, List, Bool, pos, true, false, eqb, length, arith, to_z-of_z, eq-eqb, ne_eqb, rules, Err}
use Rattle.std.specs.Int.{w64}
use Rattle.rules.specs.Streams.{Stream, stream, streams, eqZ}
use Rattle.rules.specs.Use.{set_on}
use Rattle.rules.specs.Refusals.{Answer, done, refused, Test, test, unless}
use Rattle.rules.specs.Entries.{strongest_of, strongest_answer}
use Rattle.samples.specs.Samples.{streams-length, read_near}
use Rattle.samples.specs.Answers.{number_of}
use Rattle.samples.specs.InOrder.{then_answer, answer_by, refuses, passes}
use Rattle.samples.specs.StreamWords.{read}
use Rattle.envelope.specs.Tests.{stream_tests, stream_passed}
use Rattle.envelope.specs.FirstBest.{First, stronger}
use Rattle.envelope.specs.Strongest.{greatest, first-strongest}
use Rattle.envelope.proofs.strongest.strongest.Goals as goal

-- the last two tests, and the answer where no test holds
abbrev no_corner : List ℤ → Test
no_corner es = test 10 0 (eqb (length es) 0)

abbrev no_course : ℤ → ℤ → Test
no_course x y = test 11 0 (eqZ x (pos 0) && eqZ y (pos 0))

-- by what the tests of the ring and the course said of the course as it was read, which is as it was given
module _ (es ns : List ℤ) {x y : ℤ} (a : read x ≡ x) (b : read y ≡ y) where
  after : {t : Answer (Unit {0})} → t ≡ unless (stream_tests es ns (stream (read x) (read y))) tt →
      strongest_answer es ns x y ≡ then_answer t (unless (no_corner es ∷ no_course x y ∷ []) (strongest_of x y (streams es ns)))
  unfolding strongest_answer
  after h =
      answer_by (stream_tests es ns (stream x y)) (no_corner es ∷ no_course x y ∷ []) (strongest_of x y (streams es ns)) tt
      (sym (h ∙ ap (λ (s : Stream). unless (stream_tests es ns s) tt) (ap₂ stream a b)))

  module _ (passed : done (tt {0}) ≡ unless (stream_tests es ns (stream (read x) (read y))) tt) where
    cornerless : length es ≡ 0 → refused 10 0 ≡ strongest_answer es ns x y
    cornerless e =
        sym (after passed ∙ refuses (no_corner es) (no_course x y ∷ []) (strongest_of x y (streams es ns)) (eq-eqb (length es) 0 e))

    -- where it has a corner
    module _ (some : length es ≡ 0 → ⊥) {n : Bool} (tested : n ≡ (eqZ (read x) (pos 0) && eqZ (read y) (pos 0))) where
      left : strongest_answer es ns x y ≡ unless (no_course x y ∷ []) (strongest_of x y (streams es ns))
      left = after passed ∙ passes (no_corner es) (no_course x y ∷ []) (strongest_of x y (streams es ns)) (ne_eqb (length es) 0 some)

      course : n ≡ (eqZ x (pos 0) && eqZ y (pos 0))
      course = tested ∙ ap₂ (λ (x y : ℤ). eqZ x (pos 0) && eqZ y (pos 0)) a b

      courseless : n ≡ true → refused 11 0 ≡ strongest_answer es ns x y
      courseless e = sym (left ∙ refuses (no_course x y) [] (strongest_of x y (streams es ns)) (sym course ∙ e))

      all_pass : n ≡ false → strongest_answer es ns x y ≡ done (strongest_of x y (streams es ns))
      all_pass e = left ∙ passes (no_course x y) [] (strongest_of x y (streams es ns)) (sym course ∙ e)

  -- the place that was found, said of the course as it was given
  found : {k : ℕ} → length es ≡ length ns → First (stronger (read x) (read y)) (streams es ns) (length es) k →
      First (stronger x y) (streams es ns) (length (streams es ns)) k
  found {k} even f =
      subst (λ (n : ℕ). First (stronger x y) (streams es ns) n k) (sym (streams-length es ns even))
      (subst (λ (v : ℤ). First (stronger x v) (streams es ns) (length es) k) b
      (subst (λ (u : ℤ). First (stronger u (read y)) (streams es ns) (length es) k) a f))

pub returns-in_err-of_ring_and_stream : goal.returns-in_err-of_ring_and_stream
returns-in_err-of_ring_and_stream c =
    let e : c.from_residual.result ≡ Err c.in_err-of_ring_and_stream.field-0.0 = search rules in
    rw e (sym (after c.args.east.now c.args.north.now (to_z-of_z c.ranges.x) (to_z-of_z c.ranges.y) c.in_err-of_ring_and_stream.ensures))

pub returns-then-east-eq0 : goal.returns-then-east-eq0
returns-then-east-eq0 c =
    ap (λ r. refused (number_of r.reason) r.place) c.into.ensures ∙
    cornerless c.args.east.now c.args.north.now (to_z-of_z c.ranges.x) (to_z-of_z c.ranges.y) c.in_ok-of_ring_and_stream.ensures (omega arith)

pub nowhere-requires : goal.nowhere-requires
nowhere-requires c =
    (stream_passed c.args.east.now c.args.north.now tt (stream (read c.args.x) (read c.args.y)) (sym c.in_ok-of_ring_and_stream.ensures)).1

pub returns-then-nowhere : goal.returns-then-nowhere
returns-then-nowhere c =
    ap (λ r. refused (number_of r.reason) r.place) c.into-then-nowhere.ensures ∙
    courseless c.args.east.now c.args.north.now (to_z-of_z c.ranges.x) (to_z-of_z c.ranges.y) c.in_ok-of_ring_and_stream.ensures
    (λ e. omega arith) c.nowhere.ensures (cc)

pub strongest_place-place-requires : goal.strongest_place-place-requires
strongest_place-place-requires c =
    let near = stream_passed c.args.east.now c.args.north.now tt (stream (read c.args.x) (read c.args.y)) (sym c.in_ok-of_ring_and_stream.ensures) in
    (near.0, near.1, omega arith)

pub set_on-set-requires : goal.set_on-set-requires
set_on-set-requires c =
    let near = stream_passed c.args.east.now c.args.north.now tt (stream (read c.args.x) (read c.args.y)) (sym c.in_ok-of_ring_and_stream.ensures) in
    (near.1, read_near near.0 c.strongest_place-place.result c.at.ensures)

pub returns : goal.returns
returns c =
    let es = c.args.east.now in
    let ns = c.args.north.now in
    let x = to_z-of_z c.ranges.x in
    let y = to_z-of_z c.ranges.y in
    let passed = c.in_ok-of_ring_and_stream.ensures in
    let near = stream_passed es ns tt (stream (read c.args.x) (read c.args.y)) (sym passed) in
    let set = to_z-of_z {w = w64} (record { sfits = c.set_on-set.type_inv }) ∙ c.set_on-set.ensures ∙ (λ k. set_on (x k) (y k) (c.at.ensures k)) in
    ap done
    (ap (λ (z : ℤ). greatest z c.strongest_place-place.result) set ∙
    sym (first-strongest c.args.x c.args.y (streams es ns) (found es ns x y near.0.even c.strongest_place-place.ensures))) ∙
    sym (all_pass es ns x y passed (λ e. omega arith) c.nowhere.ensures (cc))
