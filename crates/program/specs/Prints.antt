-- What the program prints, said of the rules' own function `program`, which `answer` is proved to compute. For any bytes it is one of two forms; for good
-- text it is the ring of the text's samples, and samples printed as lines are good text.
-- Assumes nothing.
use Rattle.std.specs.Prelude.{◌≡◌, ◌⊎◌, Bool, true, false, List, [], ◌++◌, ℕ, ◌≤◌, ◌<◌, length, take, drop}
use Rattle.std.proofs.Math.Path.{refl}
use Rattle.std.proofs.Common.{sym, ap, ◌∙◌, inl, inr, append-nil, arith, length-append, length-take-le}
use Rattle.std.proofs.Math.Decide.{dec_lt}
use Rattle.std.proofs.lemmas.List.{take-append-le}
use Rattle.rules.specs.Lists.{some_of, first_place, written}
use Rattle.rules.specs.Streams.{Stream, beyond}
use Rattle.rules.specs.Ring.{ring}
use Rattle.rules.specs.Refusals.{Answer, refused, done}
use Rattle.rules.specs.Program.{most_lines, samples, printed_corners, printed, program}
use Rattle.text.specs.Again.{samples_again}
use Rattle.text.specs.Enough.{enough}
use Rattle.text.specs.TextLines.{samples_few}

-- ---- the two forms

-- "ring", the corner count and a line per corner: the text is good, of at most 512 lines, and no part is beyond the limit
pub record Ring (bs : List ℕ) : Type 0 where
  pub all : List Stream
  pub good : samples bs ≡ done all
  pub few : length all ≤ most_lines
  pub near : some_of beyond all ≡ false
  pub prints : program bs ≡ printed (done (ring all))

-- "refused", the number and the place: what the text is refused for, or 3 and the first place where its samples are beyond the limit
pub data Refused (bs : List ℕ) : Type 0 where
  bad_text : (k p : ℕ) → samples bs ≡ refused k p → program bs ≡ printed (refused k p) → Refused bs
  part_beyond : (all : List Stream) → samples bs ≡ done all → some_of beyond all ≡ true → program bs ≡ printed (refused 3 (first_place beyond all)) → Refused bs

module _ (bs : List ℕ) where
  -- a text's ring
  pub good_text : (all : List Stream) → samples bs ≡ done all → some_of beyond all ≡ false → program bs ≡ printed (done (ring all))
  unfolding program
  good_text all e near = rw (e, near) refl

  beyond-text : (all : List Stream) → samples bs ≡ done all → some_of beyond all ≡ true → program bs ≡ printed (refused 3 (first_place beyond all))
  unfolding program
  beyond-text all e far = rw (e, far) refl

  refused_text : (k p : ℕ) → samples bs ≡ refused k p → program bs ≡ printed (refused k p)
  unfolding program
  refused_text k p e = rw e refl

  -- any bytes
  pub one_of_two : Ring bs ⊎ Refused bs
  one_of_two = go (samples bs) refl
    where
      tested : (all : List Stream) → samples bs ≡ done all → (b : Bool) → some_of beyond all ≡ b → Ring bs ⊎ Refused bs
      tested all e true far = inr (part_beyond all e far (beyond-text all e far))
      tested all e false near =
          inl (record { all = all; good = e; few = samples_few bs all e; near = near; prints = good_text all e near })

      go : (a : Answer (List Stream)) → samples bs ≡ a → Ring bs ⊎ Refused bs
      go (refused k p) e = inr (bad_text k p e (refused_text k p e))
      go (done all) e = tested all e (some_of beyond all) refl

-- ---- samples as lines

-- the lines of at most 512 samples within the limit, as a ring's corners are printed, give the ring of these samples
pub ring_of_lines : (xs : List Stream) → length xs ≤ most_lines → some_of beyond xs ≡ false →
    program (printed_corners xs) ≡ printed (done (ring xs))
ring_of_lines xs few near = good_text (printed_corners xs) xs (samples_again xs few near) near

-- ---- input of any length

-- the first count bytes of a text are the first of an input: all of them, where they leave room in the text
pub record Holds (bs : List ℕ) (count : ℕ) (input : List ℕ) : Type 0 where
  pub rest : List ℕ
  pub begins : input ≡ take count bs ++ rest
  pub ends : count < length bs → rest ≡ []

-- what is printed is what the rules say of the whole input, whatever it is: so many bytes, at the front of the output
pub record Answers (bs : List ℕ) (count r : ℕ) (out out' : List ℕ) : Type 0 where
  pub many : (input : List ℕ) → Holds bs count input → r ≡ length (program input)
  pub content : (input : List ℕ) → Holds bs count input → out' ≡ written (program input) out

-- 9,217 bytes are enough
module _ (bs : List ℕ) (count : ℕ) (enough_room : 9217 ≤ length bs) (fits : count ≤ length bs) where
  pub any_length : (input : List ℕ) → Holds bs count input → program (take count bs) ≡ program input
  any_length input h = go (dec_lt count (length bs))
    where
      front : List ℕ
      front = take count bs

      go : Dec (count < length bs) → program front ≡ program input
      go (yes l) = ap program (sym (append-nil front) ∙ ap (λ (r : List ℕ). front ++ r) (sym (h.ends l)) ∙ sym h.begins)
      go (no l) =
          enough front
          ∙ ap program (sym (take-append-le 9217 front h.rest (omega (arith, length-take-le count bs fits))) ∙ ap (take 9217) (sym h.begins))
          ∙ sym (enough input)

  pub answers : (r : ℕ) (out out' : List ℕ) → r ≡ length (program (take count bs)) → out' ≡ written (program (take count bs)) out →
      Answers bs count r out out'
  answers r out out' m c = record {
    many = λ input h. m ∙ ap length (any_length input h);
    content = λ input h. c ∙ ap (λ (p : List ℕ). written p out) (any_length input h);
  }

-- the bytes that were read are themselves such an input
front_holds : (bs : List ℕ) (count : ℕ) → Holds bs count (take count bs)
front_holds bs count = record { rest = []; begins = sym (append-nil (take count bs)); ends = λ l. refl }

-- what is printed stands in the output
pub answers_fit : (bs : List ℕ) (count r : ℕ) (out out' : List ℕ) → Answers bs count r out out' → r ≤ length out'
answers_fit bs count r out out' a =
    let h = front_holds bs count in
    let bytes = program (take count bs) in
    omega (arith, a.many (take count bs) h, ap length (a.content (take count bs) h), length-append bytes (drop (length bytes) out))

-- no two outcomes
pub answers_one : (bs : List ℕ) (count r r' : ℕ) (out new new' : List ℕ) → Answers bs count r out new → Answers bs count r' out new' →
    (r ≡ r') × (new ≡ new')
answers_one bs count r r' out new new' a b =
    let h = front_holds bs count in
    (a.many (take count bs) h ∙ sym (b.many (take count bs) h), a.content (take count bs) h ∙ sym (b.content (take count bs) h))
