use Rattle.std.proofs.Common.{◌≡◌, sym, ap, ◌∙◌, Bool, ◌||◌, List, ℕ, ℤ, length, ltb, eqb, arith, rules}
use Rattle.rules.specs.Refusals.{done, refused}
use Rattle.rules.specs.Record.{in_sense, corners_in}
use Rattle.laws_records.specs.InSense.{sense-length}
use Rattle.samples.specs.Answers.{number_of}
use Rattle.samples.specs.Forms.{sense_byte}
use Rattle.envelope.specs.CornersNear.{none_beyond}
use Rattle.reader.specs.RecordAnswers.{corners_refused, corners_done}
use Rattle.reader.specs.ReadTests.{refused_2, refused_3, refused_9, short, answered, no_place}
use Rattle.reader.proofs.read_corners.Goals as goal

-- the test of the outputs, of as many corners as were counted
decided : (es ns : List ℤ) {n m : ℕ} {b t : Bool} → n ≡ m → b ≡ (ltb (length es) n || ltb (length ns) n) → b ≡ t → (ltb (length es) m || ltb (length ns) m) ≡ t
decided es ns e h f = ap (λ (n : ℕ). ltb (length es) n || ltb (length ns) n) (sym e) ∙ sym h ∙ f

pub returns-then-n-gt-MOST : goal.returns-then-n-gt-MOST
returns-then-n-gt-MOST c =
    let a = c.args in
    corners_refused (ap (λ r. refused (number_of r.reason) r.place) c.into.ensures) (refused_2 (sense_byte a.sense) a.bytes.now a.east.now a.north.now (omega arith))

pub returns-then-place-n : goal.returns-then-place-n
returns-then-place-n c =
    let a = c.args in
    let place = c.first_beyond-place in
    corners_refused (ap (λ r. refused (number_of r.reason) r.place) c.at.ensures)
    (refused_3 (sense_byte a.sense) a.bytes.now a.east.now a.north.now (omega arith) place.result place.ensures (omega arith))

pub is_envelope-requires : goal.is_envelope-requires
is_envelope-requires c =
    let cs = c.args.bytes.now in
    none_beyond (corners_in cs) (no_place (corners_in cs) c.first_beyond-place.result c.first_beyond-place.ensures (omega arith))

pub returns-then-not-is_envelope : goal.returns-then-not-is_envelope
returns-then-not-is_envelope c =
    let a = c.args in
    let cs = a.bytes.now in
    let near = no_place (corners_in cs) c.first_beyond-place.result c.first_beyond-place.ensures (omega arith) in
    corners_refused (ap (λ r. refused (number_of r.reason) r.place) c.into-then-not-is_envelope.ensures)
    (refused_9 (sense_byte a.sense) cs a.east.now a.north.now (omega arith) near (cc))

pub returns-then-too_short : goal.returns-then-too_short
returns-then-too_short c =
    let a = c.args in
    let cs = a.bytes.now in
    let near = no_place (corners_in cs) c.first_beyond-place.result c.first_beyond-place.ensures (omega arith) in
    corners_refused (ap (λ r. refused (number_of r.reason) r.place) c.into-then-too_short.ensures)
    (short (sense_byte a.sense) cs a.east.now a.north.now (omega arith) near (cc) (decided a.east.now a.north.now c.count-n.ensures c.too_short.ensures (cc)))

pub write-requires-clause-near : goal.write-requires-clause-near
write-requires-clause-near c =
    let cs = c.args.bytes.now in
    none_beyond (corners_in cs) (no_place (corners_in cs) c.first_beyond-place.result c.first_beyond-place.ensures (omega arith))

pub returns : goal.returns
unfolding in_sense
returns c =
    let a = c.args in
    let cs = a.bytes.now in
    let near = no_place (corners_in cs) c.first_beyond-place.result c.first_beyond-place.ensures (omega arith) in
    let about : c.eq-about.result ≡ eqb (sense_byte a.sense) 1 = search rules in
    let wrote = rw about at c.write.ensures in
    corners_done (ap done (c.count-n.ensures ∙ sym (sense-length (sense_byte a.sense) (corners_in cs) (cc))))
    (answered (sense_byte a.sense) cs a.east.now a.north.now (omega arith) near (cc) (decided a.east.now a.north.now c.count-n.ensures c.too_short.ensures (cc)))
    wrote.east wrote.north
