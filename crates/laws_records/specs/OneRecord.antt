-- One statement for every version and sense: what is written is read as the ring, and what is read is written, in its version and sense, as the same bytes. So
-- a ring has one record for each version and sense, and a record one ring.
-- Assumes nothing.
use Rattle.std.specs.Prelude.{◌≡◌, Bool, not, ◌&&◌, ◌||◌, ℕ, ◌+◌, ◌*◌, ◌/◌, ◌%◌, ◌≤◌, ℤ, ltb, eqb, get_or}
use Rattle.std.proofs.Math.Path.{refl, sym, ap}
use Rattle.std.proofs.Common.{ap₂, ◌∙◌, true≢false, ⊎_elim, eqb-true, ltb-false, eq-eqb, ne_eqb, le-ltb, length-append, drop_of_length-le, drop-cons, get_or-drop}
use Rattle.std.proofs.Math.Bool.{true, false, cond}
use Rattle.std.proofs.lemmas.Bool.{false≢true, eqb-false, not-false}
use mathlib.Core.List.{List, [], ◌∷◌, ◌++◌, append-nil}
use native.Mathlib.Omega.{arith}
use Rattle.std.proofs.Math.ListN.{length, drop, length-drop}
use Rattle.rules.specs.Lists.{some_of}
use Rattle.rules.specs.Streams.{Stream, most, beyond}
use Rattle.rules.specs.Use.{envelope}
use Rattle.rules.specs.Record.{known_version, head_size, size_of_sense, corner_size, in_sense, version, said_length, said_end, corners_at, corners_in, sense, corners_part, stored, meant, corners_bytes, sense_bytes, head_bytes, record_of}
use Rattle.rules.specs.Refusals.{done}
use Rattle.rules.specs.Entries.{frame_tests, corner_tests, record_tests, record_answer, form_tests}
use Rattle.laws_outline.specs.ListLaws.{both_no, one_no}
use Rattle.laws_refusals.specs.NoneHold.{None_hold, none_after, none_either, when_done, not_refused}
use Rattle.laws_records.specs.Layout.{Bytes, word-there, word-here, corners-there, corners-here}
use Rattle.laws_records.specs.InSense.{sense_near, sense-envelope, sense-length, sense-twice}

-- ---- the corners and their bytes

pub corners_size : (r : List Stream) → length (corners_bytes r) ≡ corner_size * length r
unfolding corners_bytes
corners_size [] = refl
corners_size (s ∷ r) = omega (arith, corners_size r)

corners-back : (r : List Stream) → some_of beyond r ≡ false → corners_in (corners_bytes r) ≡ r
unfolding corners_in
corners-back r near =
    let cs = corners_bytes r in
    let count : length cs / corner_size ≡ length r = omega (arith, corners_size r) in
    ap (λ (n : ℕ). corners_at n cs 0) count ∙ corners-there r cs 0 [] near (sym (append-nil cs))

bytes_back : (cs : List ℕ) → Bytes cs → length cs % corner_size ≡ 0 → corners_bytes (corners_in cs) ≡ cs
unfolding corners_in
bytes_back cs b e =
    let n = length cs / corner_size in
    let last : length cs ≤ 0 + corner_size * n = omega arith in
    sym
    (corners-here n cs 0 b (omega arith)
    ∙ ap (λ (l : List ℕ). corners_bytes (corners_at n cs 0) ++ l) (drop_of_length-le cs last)
    ∙ append-nil (corners_bytes (corners_at n cs 0)))

-- ---- versions and senses

-- a known version, and a sense that it can say
record Formed (v s : ℕ) : Type 0 where
  pub known : known_version v ≡ true
  pub said : s ≤ size_of_sense v

pub sense-one : (v : ℕ) → size_of_sense v ≤ 1
sense-one v = go (eqb v 2)
  where
    go : (b : Bool) → cond b 1 0 ≤ 1
    go true = omega arith
    go false = omega arith

pub sense_bytes_size : (v s : ℕ) → length (sense_bytes v s) ≡ size_of_sense v
sense_bytes_size v s = go (eqb v 2)
  where
    go : (b : Bool) → length (cond b (s ∷ []) []) ≡ cond b 1 0
    go true = refl
    go false = refl

-- the tests of a version and a sense, and what they say
when_formed : (v s : ℕ) → None_hold (form_tests v s) → Formed v s
when_formed v s (other, (unsaid, end)) =
    let known = not-false (known_version v) other in
    let n = both_no (ltb 1 s) (eqb s 1 && eqb v 1) unsaid in
    record { known = known; said = go (eqb v 1) (eqb v 2) known (ltb-false 1 s n.0) n.1 }
  where
    apart : s ≤ 1 → (s ≡ 1 → ⊥) → s ≤ 0
    apart h n = omega arith

    go : (one two : Bool) → (one || two) ≡ true → s ≤ 1 → (eqb s 1 && one) ≡ false → s ≤ cond two 1 0
    go one true k h f = h
    go true false k h f = apart h (eqb-false s 1 (⊎_elim (λ e. e) (λ e. absurd (true≢false e)) (one_no (eqb s 1) true f)))
    go false false k h f = absurd (false≢true k)

not_unformed : (v s : ℕ) → Formed v s → None_hold (form_tests v s)
not_unformed v s f =
    let above = le-ltb 1 s (omega (arith, f.said, sense-one v)) in
    (ap not f.known, (ap (λ (b : Bool). b || (eqb s 1 && eqb v 1)) above ∙ go (eqb v 1) refl, tt))
  where
    in_1 : v ≡ 1 → s ≤ 0
    in_1 e = rw e at f.said

    go : (one : Bool) → eqb v 1 ≡ one → (eqb s 1 && one) ≡ false
    go true e = let h = in_1 (eqb-true v 1 e) in ap (λ (b : Bool). b && true) (ne_eqb s 1 (λ n. omega arith))
    go false e = no (eqb s 1)
      where
        no : (b : Bool) → (b && false) ≡ false
        no true = refl
        no false = refl

-- ---- the record of a ring

module _ (v s : ℕ) (r : List Stream) where
  -- the corners as a record stores them
  abbrev kept : List Stream
  kept = in_sense s r

  pub rest_size : length (sense_bytes v s ++ corners_bytes kept) ≡ size_of_sense v + corner_size * length kept
  rest_size = length-append (sense_bytes v s) (corners_bytes kept) ∙ omega (arith, sense_bytes_size v s, corners_size kept)

  pub record_size : length (record_of v s r) ≡ head_size + size_of_sense v + corner_size * length kept
  unfolding record_of
  record_size = omega (arith, rest_size)

  says : said_length (record_of v s r) ≡ size_of_sense v + corner_size * length kept
  unfolding record_of
  says = let rest = sense_bytes v s ++ corners_bytes kept in word-there (record_of v s r) 1 (length rest) rest refl ∙ rest_size

  version-there : version (record_of v s r) ≡ v
  unfolding record_of
  version-there = refl

  part-there : corners_part (record_of v s r) ≡ corners_bytes kept
  unfolding record_of
  part-there = go (eqb v 2)
    where
      go : (b : Bool) → let rest = cond b (s ∷ []) [] ++ corners_bytes kept in
          drop (head_size + cond b 1 0) (head_bytes v (length rest) ++ rest) ≡ corners_bytes kept
      go true = refl
      go false = refl

  module _ (f : Formed v s) where
    sense-there : sense (record_of v s r) ≡ s
    unfolding record_of
    sense-there = go (eqb v 2) f.said
      where
        go : (b : Bool) → s ≤ cond b 1 0 → let rest = cond b (s ∷ []) [] ++ corners_bytes kept in
            cond b (get_or (head_bytes v (length rest) ++ rest) head_size 0) 0 ≡ s
        go true h = refl
        go false h = omega arith

    -- the bytes around the corners are right
    framed : None_hold (frame_tests (record_of v s r))
    framed =
        let bs = record_of v s r in
        let size = record_size in
        let one = le-ltb (length bs) 1 (omega arith) in
        let known = ap (λ (w : ℕ). not (known_version w)) version-there ∙ ap not f.known in
        let head = le-ltb (length bs) head_size (omega arith) in
        let multiple : said_length bs % corner_size ≡ size_of_sense v = omega (arith, says, sense-one v) in
        let whole = ap not (eq-eqb (said_length bs % corner_size) (size_of_sense (version bs)) (multiple ∙ ap size_of_sense (sym version-there))) in
        let All_there = le-ltb (length bs) (said_end bs) (omega (arith, says)) in
        let no_more = le-ltb (said_end bs) (length bs) (omega (arith, says)) in
        let said = ap (ltb 1) sense-there ∙ le-ltb 1 s (omega (arith, f.said, sense-one v)) in
        (one, (known, (head, (whole, (All_there, (no_more, (said, tt)))))))

    module _ (near : some_of beyond r ≡ false) (is : envelope r ≡ true) where
      stored_there : stored (record_of v s r) ≡ kept
      stored_there = ap corners_in part-there ∙ corners-back kept (sense_near s r near)

      meant-there : meant (record_of v s r) ≡ r
      meant-there = ap₂ in_sense sense-there stored_there ∙ sense-twice s r is

-- what a record of a version and a sense that pass means is the ring
pub record_ring : (v s : ℕ) (r : List Stream) → None_hold (form_tests v s) → some_of beyond r ≡ false → envelope r ≡ true → meant (record_of v s r) ≡ r
record_ring v s r f near is = meant-there v s r (when_formed v s f) near is

-- THE LAW, one way: what is written is read as the ring
pub written_reads : (v s : ℕ) (r : List Stream) → None_hold (form_tests v s) → length r ≤ most → some_of beyond r ≡ false → envelope r ≡ true →
    (east north : List ℤ) → length r ≤ length east → length r ≤ length north → record_answer (record_of v s r) east north ≡ done r
unfolding record_answer
written_reads v s r f few near is east north east_room north_room =
    let bs = record_of v s r in
    let formed = when_formed v s f in
    let stands = stored_there v s r formed near is in
    let ring = meant-there v s r formed near is in
    let count = sense-length s r is in
    let few_stored = ap (λ (t : List Stream). ltb most (length t)) stands ∙ le-ltb most (length (in_sense s r)) (omega arith) in
    let near_stored = ap (some_of beyond) stands ∙ sense_near s r near in
    let is_stored = ap (λ (t : List Stream). not (envelope t)) stands ∙ ap not (sense-envelope s r is) in
    let room = ap (λ (t : List Stream). ltb (length east) (length t) || ltb (length north) (length t)) ring
    ∙ ap₂ ◌||◌ (le-ltb (length east) (length r) east_room) (le-ltb (length north) (length r) north_room) in
    not_refused (record_tests bs east north) (meant bs)
    (none_after (frame_tests bs) (corner_tests (sense bs) (stored bs) east north) (framed v s r formed)
    (few_stored, (near_stored, (is_stored, (room, tt)))))
    ∙ ap done ring

-- ---- the ring of a record

bytes_from : (k : ℕ) {bs : List ℕ} → Bytes bs → Bytes (drop k bs)
bytes_from k {bs} b = record { below = λ i. rw (get_or-drop k bs i 0) (b.below (k + i)) }

module _ (bs : List ℕ) where
  -- what right bytes around the corners say
  record Framed : Type 0 where
    pub long : head_size ≤ length bs
    pub form : Formed (version bs) (sense bs)
    pub multiple : said_length bs % corner_size ≡ size_of_sense (version bs)
    pub end : said_end bs ≡ length bs

  when_framed : None_hold (frame_tests bs) → Framed
  when_framed (one, (other, (head, (odd, (early, (more, (above, end))))))) = record {
    long = ltb-false (length bs) head_size head;
    form = record { known = not-false (known_version (version bs)) other; said = go (eqb (version bs) 2) above };
    multiple = eqb-true (said_length bs % corner_size) (size_of_sense (version bs)) (not-false _ odd);
    end = omega (arith, ltb-false (length bs) (said_end bs) early, ltb-false (said_end bs) (length bs) more);
  }
    where
      go : (b : Bool) → ltb 1 (cond b (get_or bs head_size 0) 0) ≡ false → cond b (get_or bs head_size 0) 0 ≤ cond b 1 0
      go true e = ltb-false 1 (get_or bs head_size 0) e
      go false e = omega arith

  module _ (f : Framed) where
    -- the head is followed by the sense and the corners
    parted : drop head_size bs ≡ sense_bytes (version bs) (sense bs) ++ corners_part bs
    parted = go (eqb (version bs) 2) f.multiple
      where
        go : (b : Bool) → said_length bs % corner_size ≡ cond b 1 0 →
            drop head_size bs ≡ cond b (cond b (get_or bs head_size 0) 0 ∷ []) [] ++ drop (head_size + cond b 1 0) bs
        go true e = drop-cons bs head_size 0 (omega (arith, f.end))
        go false e = refl

    ring_record : Bytes bs → envelope (stored bs) ≡ true → record_of (version bs) (sense bs) (meant bs) ≡ bs
    unfolding record_of
    ring_record b is =
        let v = version bs in
        let s = sense bs in
        let cs = corners_part bs in
        let count = length-drop (head_size + size_of_sense v) bs in
        let whole : length cs % corner_size ≡ 0 = omega (arith, f.long, f.multiple, f.end, sense-one v) in
        let rest = ap (λ (t : List Stream). sense_bytes v s ++ corners_bytes t) (sense-twice s (stored bs) is)
        ∙ ap (λ (l : List ℕ). sense_bytes v s ++ l) (bytes_back cs (bytes_from (head_size + size_of_sense v) b) whole)
        ∙ sym parted in
        let size : length (drop head_size bs) ≡ said_length bs = omega (arith, length-drop head_size bs, f.end) in
        ap (λ (l : List ℕ). head_bytes v (length l) ++ l) rest
        ∙ ap (λ (n : ℕ). head_bytes v n ++ drop head_size bs) size
        ∙ ap (λ (l : List ℕ). v ∷ l) (sym (word-here bs 1 b (omega (arith, f.long))))
        ∙ sym (drop-cons bs 0 0 (omega (arith, f.long)))

-- a call that reads a record
module _ (bs : List ℕ) (east north : List ℤ) {r : List Stream} (e : record_answer bs east north ≡ done r) where
  none_held : None_hold (record_tests bs east north) × (meant bs ≡ r)
  unfolding record_answer
  none_held = when_done (record_tests bs east north) (meant bs) e

  right : None_hold (frame_tests bs) × None_hold (corner_tests (sense bs) (stored bs) east north)
  right = none_either (frame_tests bs) (corner_tests (sense bs) (stored bs) east north) none_held.0

  -- THE LAW, the other way: what is read is written, in its version and sense, as the same bytes
  pub read_writes : Bytes bs → record_of (version bs) (sense bs) r ≡ bs
  read_writes b =
      ap (record_of (version bs) (sense bs)) (sym none_held.1)
      ∙ ring_record bs (when_framed bs right.0) b (not-false _ right.1.1.1.0)

  -- which pass
  pub read_formed : None_hold (form_tests (version bs) (sense bs))
  read_formed = not_unformed (version bs) (sense bs) (when_framed bs right.0).form

-- ---- so a ring has one record for each version and sense

pub one_record : (bs bs' : List ℕ) (east north east' north' : List ℤ) {r : List Stream} → Bytes bs → Bytes bs' → version bs ≡ version bs' → sense bs ≡ sense bs' →
    record_answer bs east north ≡ done r → record_answer bs' east' north' ≡ done r → bs ≡ bs'
one_record bs bs' east north east' north' {r} b b' hv hs e e' =
    sym (read_writes bs east north e b) ∙ ap₂ (λ (v s : ℕ). record_of v s r) hv hs ∙ read_writes bs' east' north' e' b'

-- and a record one ring
pub one-ring : (v s v' s' : ℕ) (r r' : List Stream) → None_hold (form_tests v s) → None_hold (form_tests v' s') → some_of beyond r ≡ false → some_of beyond r' ≡ false →
    envelope r ≡ true → envelope r' ≡ true → record_of v s r ≡ record_of v' s' r' → r ≡ r'
one-ring v s v' s' r r' f f' near near' is is' e = sym (record_ring v s r f near is) ∙ ap meant e ∙ record_ring v' s' r' f' near' is'
