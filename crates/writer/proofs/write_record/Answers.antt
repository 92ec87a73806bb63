use Rattle.std.proofs.Common.{◌≡◌, sym, ap, ◌∙◌, true, false, List, [], ◌∷◌, ◌++◌, ℕ, ℤ, ◌+◌, ◌-◌, ◌*◌, ◌<◌, ◌≤◌, ltb, eqb, cond, Bool, length, not, arith, rules, lt-ltb, le-ltb, Result, Err}
use Rattle.rules.specs.Lists.{written}
use Rattle.rules.specs.Streams.{Stream, streams, most}
use Rattle.rules.specs.Use.{envelope}
use Rattle.rules.specs.Record.{head_size, size_of_sense, corner_size, in_sense, corners_bytes, sense_bytes, head_bytes, record_of}
use Rattle.rules.specs.Refusals.{Answer, done, refused, Test, unless, output_after, output_short, ring_tests, not_envelope}
use Rattle.rules.specs.Entries.{counted, form_tests, write_answer}
use Rattle.laws_refusals.specs.NoneHold.{none_either, when_done}
use Rattle.laws_records.specs.InSense.{sense-length}
use Rattle.laws_records.specs.OneRecord.{corners_size, sense_bytes_size, rest_size, record_size}
use Rattle.samples.specs.Answers.{answer_of}
use Rattle.samples.specs.Forms.{version_byte, sense_byte}
use Rattle.samples.specs.InOrder.{then_answer, answer_by, refuses, passes, sampled_few}
use Rattle.samples.specs.Samples.{streams-length}
use Rattle.samples.specs.Placed.{Put, then, put-length, at_front}
use Rattle.samples.specs.Positions.{Sampled}
use Rattle.samples.specs.declared.refusals.Refusal.{Refusal}
use Rattle.envelope.specs.CornersNear.{lists_near}
use Rattle.writer.specs.Form.{form_as}
use Rattle.writer.proofs.write_record.Goals as goal

-- a refusal alters nothing
left_as_it_is : {a : Answer (List ℕ)} (r : Result ℕ Refusal) {old : List ℕ} {k p : ℕ} → answer_of r ≡ refused k p → a ≡ refused k p →
    (answer_of r ≡ counted a) × (old ≡ output_after (λ bs. bs) a old)
left_as_it_is r {old} h e = (h ∙ ap counted (sym e), ap (λ (a : Answer (List ℕ)). output_after (λ bs. bs) a old) (sym e))

-- one byte at most says the sense
one_byte : (v : ℕ) → size_of_sense v ≤ 1
one_byte v = go (eqb v 2)
  where
    go : (b : Bool) → cond b 1 0 ≤ 1
    go true = omega arith
    go false = omega arith

-- the ring's two lists and the output as they come, and the version and the sense: as they are given, and as they are found
module _ (es ns : List ℤ) (old : List ℕ) (given form : ℕ × ℕ) where
  -- the tests of the version and the sense, and of the lists
  abbrev first_tests : List Test
  first_tests = form_tests given.0 given.1 ++ ring_tests es ns

  abbrev answered : Answer (List ℕ)
  answered = write_answer given.0 given.1 es ns old

  abbrev none : Test
  none = not_envelope es ns

  abbrev short_of : ℕ × ℕ → Test
  short_of f = output_short (ltb (length old) (length (record_of f.0 f.1 (streams es ns))))

  abbrev short : Test
  short = short_of form

  abbrev kept : List Stream
  kept = in_sense form.1 (streams es ns)

  abbrev bytes : List ℕ
  bytes = record_of form.0 form.1 (streams es ns)

  -- by what they said
  after : {t : Answer (ℕ × ℕ)} → t ≡ unless first_tests given
      → answered ≡ then_answer t (unless (none ∷ short_of given ∷ []) (record_of given.0 given.1 (streams es ns)))
  unfolding write_answer
  after e = answer_by first_tests (none ∷ short_of given ∷ []) (record_of given.0 given.1 (streams es ns)) given (sym e)

  -- where they are passed, what is found is what was given
  module _ (p : done form ≡ unless first_tests given) where
    good : Sampled es ns × (length es ≤ most)
    good = sampled_few es ns [] (none_either (form_tests given.0 given.1) (ring_tests es ns) (when_done first_tests given (sym p)).0).1

    -- how many corners there are at most
    few : {n : ℕ} → n ≡ length (streams es ns) → n ≤ most
    few e = omega (arith, streams-length es ns good.0.even, good.1)

    then_two : answered ≡ unless (none ∷ short ∷ []) bytes
    then_two =
        after p
        ∙ ap (λ (f : ℕ × ℕ). unless (none ∷ short_of f ∷ []) (record_of f.0 f.1 (streams es ns))) (when_done first_tests given (sym p)).1

    nine : envelope (streams es ns) ≡ false → answered ≡ refused 9 0
    nine e = then_two ∙ refuses none (short ∷ []) bytes (ap not e)

    module _ (is : envelope (streams es ns) ≡ true) {n : ℕ} (counted : n ≡ length (streams es ns)) where
      left : answered ≡ unless (short ∷ []) bytes
      left = then_two ∙ passes none (short ∷ []) bytes (ap not is)

      -- how long the record is
      size : length bytes ≡ head_size + size_of_sense form.0 + corner_size * n
      size = omega (arith, record_size form.0 form.1 (streams es ns), sense-length form.1 (streams es ns) is)

      five : length old < head_size + size_of_sense form.0 + corner_size * n → answered ≡ refused 5 0
      five h = left ∙ refuses short [] bytes (lt-ltb (length old) (length bytes) (omega (arith, size)))

      -- and where there is room for it the record
      module _ (room : head_size + size_of_sense form.0 + corner_size * n ≤ length old) where
        all : answered ≡ done bytes
        all = left ∙ passes short [] bytes (le-ltb (length old) (length bytes) (omega (arith, size)))

        module _ {next : ℕ} {mid : List ℕ} (h : Put (head_bytes form.0 (size_of_sense form.0 + corner_size * n) ++ sense_bytes form.0 form.1) 0 old mid next) where
          corners_room : next + length (corners_bytes kept) ≤ length mid
          corners_room = omega (arith, h.next_is, put-length h, sense_bytes_size form.0 form.1, corners_size kept, sense-length form.1 (streams es ns) is)

          both-put : {next-2 : ℕ} {new : List ℕ} → Put (corners_bytes kept) next mid new next-2 → new ≡ written bytes old
          unfolding record_of
          both-put k =
              let rest : size_of_sense form.0 + corner_size * n ≡ length (sense_bytes form.0 form.1 ++ corners_bytes kept) =
              omega (arith, rest_size form.0 form.1 (streams es ns), sense-length form.1 (streams es ns) is) in
              (at_front bytes old (then (rw rest at h) k)).1

pub returns-in_err-form : goal.returns-in_err-form
returns-in_err-form c =
    let a = c.args in
    let e : c.from_residual.result ≡ Err c.in_err-form.field-0.0 = search rules in
    let l = left_as_it_is c.from_residual.result (ap (λ (r : Result ℕ Refusal). answer_of r) e)
    (after a.east.now a.north.now a.out.now (a.version, a.sense) (0, 0) c.in_err-form.ensures) in
    record { answer = l.0; out = l.1 }

pub overflow_mul-size : goal.overflow_mul-size
overflow_mul-size c = let a = c.args in omega (arith, few a.east.now a.north.now a.out.now (a.version, a.sense) (form_as c.in_ok-form.form) c.in_ok-form.ensures c.count.ensures)

pub overflow_add-size-2 : goal.overflow_add-size-2
overflow_add-size-2 c =
    let a = c.args in
    let v = version_byte c.in_ok-form.form.version in
    omega (arith, few a.east.now a.north.now a.out.now (a.version, a.sense) (form_as c.in_ok-form.form) c.in_ok-form.ensures c.count.ensures, c.sense_size.ensures, one_byte v)

pub put_head-from-requires : goal.put_head-from-requires
put_head-from-requires c =
    let a = c.args in
    let v = version_byte c.in_ok-form.form.version in (
      omega arith,
      omega (arith, few a.east.now a.north.now a.out.now (a.version, a.sense) (form_as c.in_ok-form.form) c.in_ok-form.ensures c.count.ensures, c.sense_size.ensures, one_byte v),
      omega (arith, c.sense_size.ensures, sense_bytes_size v (sense_byte c.in_ok-form.form.sense)),
    )

pub is_envelope-is-requires : goal.is_envelope-is-requires
is_envelope-is-requires c = let a = c.args in lists_near (good a.east.now a.north.now a.out.now (a.version, a.sense) (form_as c.in_ok-form.form) c.in_ok-form.ensures).0

pub returns-then-not-is : goal.returns-then-not-is
returns-then-not-is c =
    let a = c.args in
    let e = nine a.east.now a.north.now a.out.now (a.version, a.sense) (form_as c.in_ok-form.form) c.in_ok-form.ensures (cc) in
    record { answer = search rules ∙ sym (ap counted e); out = sym (ap (λ (w : Answer (List ℕ)). output_after (λ bs. bs) w a.out.now) e) }

pub returns-then-out-size : goal.returns-then-out-size
returns-then-out-size c =
    let a = c.args in
    let e = five a.east.now a.north.now a.out.now (a.version, a.sense) (form_as c.in_ok-form.form) c.in_ok-form.ensures (cc) c.count.ensures (omega (arith, c.sense_size.ensures)) in
    record { answer = search rules ∙ sym (ap counted e); out = sym (ap (λ (w : Answer (List ℕ)). output_after (λ bs. bs) w a.out.now) e) }

pub put_corners-requires-clause-near : goal.put_corners-requires-clause-near
put_corners-requires-clause-near c = let a = c.args in lists_near (good a.east.now a.north.now a.out.now (a.version, a.sense) (form_as c.in_ok-form.form) c.in_ok-form.ensures).0

pub put_corners-requires-clause-room : goal.put_corners-requires-clause-room
unfolding in_sense
put_corners-requires-clause-room c =
    let a = c.args in
    let n = c.count.result in
    let v = version_byte c.in_ok-form.form.version in
    let about : c.eq-about.result ≡ eqb (sense_byte c.in_ok-form.form.sense) 1 = search rules in
    let room : head_size + size_of_sense v + corner_size * n ≤ length a.out.now = omega (arith, c.sense_size.ensures) in
    let size : 5 + c.sense_size.result + 8 * n - head_size ≡ size_of_sense v + corner_size * n = omega (arith, c.sense_size.ensures) in
    rw about (corners_room a.east.now a.north.now a.out.now (a.version, a.sense) (form_as c.in_ok-form.form) c.in_ok-form.ensures (cc) c.count.ensures room (rw size at c.put_head-from.ensures))

pub returns : goal.returns
unfolding in_sense
returns c =
    let a = c.args in
    let n = c.count.result in
    let p = c.in_ok-form.ensures in
    let v = version_byte c.in_ok-form.form.version in
    let se = sense_byte c.in_ok-form.form.sense in
    let is : envelope (streams a.east.now a.north.now) ≡ true = cc in
    let about : c.eq-about.result ≡ eqb se 1 = search rules in
    let room : head_size + size_of_sense v + corner_size * n ≤ length a.out.now = omega (arith, c.sense_size.ensures) in
    let whole : 5 + c.sense_size.result + 8 * n ≡ length (record_of v se (streams a.east.now a.north.now)) =
    omega (arith, c.sense_size.ensures, size a.east.now a.north.now a.out.now (a.version, a.sense) (form_as c.in_ok-form.form) p is c.count.ensures) in
    let rest : 5 + c.sense_size.result + 8 * n - head_size ≡ size_of_sense v + corner_size * n = omega (arith, c.sense_size.ensures) in
    let e = all a.east.now a.north.now a.out.now (a.version, a.sense) (form_as c.in_ok-form.form) p is c.count.ensures room in
    record {
      answer = rw e (ap done whole);
      out =
          rw e (both-put a.east.now a.north.now a.out.now (a.version, a.sense) (form_as c.in_ok-form.form) p is c.count.ensures room (rw rest at c.put_head-from.ensures) (rw about at c.put_corners.ensures));
    }
