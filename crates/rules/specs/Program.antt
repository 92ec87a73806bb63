-- The program. "It reads standard input: lines "east north" in decimal, one space, newline at the end of each; an optional minus, 1 to 7 digits, no
-- leading zero, no "-0". At most 512 lines; any byte after the 512th newline is a 513th line. All text is read first: the first bad line (15) decides, or
-- the 513th line (2) if the 512 before it are good. Only then is 3 tested. It prints "ring" and the corner count, then a line per corner, east and north;
-- or "refused", the number and the place on one line, one space between." Text is a list of bytes, in and out.
-- Assumes nothing.
use Rattle.std.specs.Prelude.{Bool, false, cond, not, ◌&&◌, List, [], ◌∷◌, ◌++◌, ℕ, zero, suc, ◌+◌, ◌-◌, ◌*◌, ◌/◌, ◌%◌, ℤ, pos, negsuc, leb, ltb, eqb, length}
use Rattle.std.proofs.Math.Option.{Option, none, some}
use Rattle.rules.specs.Lists.{all_of}
use Rattle.rules.specs.Streams.{Stream, stream}
use Rattle.rules.specs.Ring.{ring}
use Rattle.rules.specs.Refusals.{Answer, refused, done, unless, part_beyond}

-- ---- bytes

abbrev pub newline : ℕ
newline = 10

abbrev pub space : ℕ
space = 32

abbrev pub minus : ℕ
minus = 45

abbrev pub digit_zero : ℕ
digit_zero = 48

abbrev pub is_digit : ℕ → Bool
is_digit b = leb 48 b && leb b 57

-- ---- reading a number

-- the value of digits after a value already read
unfoldable pub decimal : ℕ → List ℕ → ℕ
decimal n [] = n
decimal n (b ∷ bs) = decimal (n * 10 + (b - digit_zero)) bs

-- the first byte is a zero that other digits follow
abbrev pub leading_zero : List ℕ → Bool
leading_zero [] = false
leading_zero (b ∷ []) = false
leading_zero (b ∷ c ∷ bs) = eqb b digit_zero

-- "1 to 7 digits, no leading zero"
unfoldable pub unsigned : List ℕ → Option ℕ
unsigned bs =
    cond (all_of is_digit bs && leb 1 (length bs) && leb (length bs) 7 && not (leading_zero bs)) (some (decimal 0 bs)) none

-- after a minus: 'no "-0"'
abbrev pub negated : Option ℕ → Option ℤ
negated none = none
negated (some zero) = none
negated (some (suc n)) = some (negsuc n)

abbrev pub not_negated_number : Option ℕ → Option ℤ
not_negated_number none = none
not_negated_number (some n) = some (pos n)

-- "an optional minus"
unfoldable pub number : List ℕ → Option ℤ
number [] = none
number (b ∷ bs) = cond (eqb b minus) (negated (unsigned bs)) (not_negated_number (unsigned (b ∷ bs)))

-- ---- reading a line

-- a list cut at the first byte that equals one: what stands before it and what after it; or the whole list, where there is none
pub data Cut : Type 0 where
  unbroken : List ℕ → Cut
  broken : (before after : List ℕ) → Cut

abbrev pub longer : ℕ → Cut → Cut
longer b (unbroken l) = unbroken (b ∷ l)
longer b (broken l rest) = broken (b ∷ l) rest

unfoldable pub cut_at : ℕ → List ℕ → Cut
cut_at x [] = unbroken []
cut_at x (b ∷ bs) = cond (eqb b x) (broken [] bs) (longer b (cut_at x bs))

abbrev pub both : Option ℤ → Option ℤ → Option Stream
both none n = none
both (some e) none = none
both (some e) (some n) = some (stream e n)

abbrev pub parts : Cut → Option Stream
parts (unbroken l) = none
parts (broken e n) = both (number e) (number n)

-- "east north", one space
unfoldable pub line : List ℕ → Option Stream
line bs = parts (cut_at space bs)

-- ---- reading all text

abbrev pub most_lines : ℕ
most_lines = 512

-- the samples of a text, or the refusal of its first bad line, or of its 513th
abbrev pub with_sample : Option Stream → ℕ → Answer (List Stream) → Answer (List Stream)
with_sample none i rest = refused 15 i
with_sample (some s) i (refused k p) = refused k p
with_sample (some s) i (done xs) = done (s ∷ xs)

-- a text that is not empty has a first line
abbrev pub first_line : List ℕ → Option Cut
first_line [] = none
first_line (b ∷ bs) = some (cut_at newline (b ∷ bs))

-- the samples of the lines from number i on, `room` more of which may come; a line without its newline is bad
unfoldable pub text : ℕ → ℕ → Option Cut → Answer (List Stream)
text zero i none = done []
text zero i (some c) = refused 2 0
text (suc room) i none = done []
text (suc room) i (some (unbroken l)) = refused 15 i
text (suc room) i (some (broken l rest)) = with_sample (line l) i (text room (suc i) (first_line rest))

unfoldable pub samples : List ℕ → Answer (List Stream)
samples bs = text most_lines 1 (first_line bs)

-- ---- printing

-- the digits of a number, at most so many
unfoldable pub digits : ℕ → ℕ → List ℕ → List ℕ
digits zero n after = after
digits (suc k) n after = cond (ltb n 10) ((digit_zero + n) ∷ after) (digits k (n / 10) ((digit_zero + n % 10) ∷ after))

unfoldable pub printed_natural : ℕ → List ℕ
printed_natural n = digits 20 n []

unfoldable pub printed_whole : ℤ → List ℕ
printed_whole (pos n) = printed_natural n
printed_whole (negsuc n) = minus ∷ printed_natural (suc n)

-- "ring" and "refused", with the space after them
abbrev pub ring_word : List ℕ
ring_word = 114 ∷ 105 ∷ 110 ∷ 103 ∷ space ∷ []

abbrev pub refused_word : List ℕ
refused_word = 114 ∷ 101 ∷ 102 ∷ 117 ∷ 115 ∷ 101 ∷ 100 ∷ space ∷ []

unfoldable pub printed_corners : List Stream → List ℕ
printed_corners [] = []
printed_corners (p ∷ r) =
    printed_whole p.east ++ (space ∷ printed_whole p.north) ++ (newline ∷ printed_corners r)

unfoldable pub printed : Answer (List Stream) → List ℕ
printed (refused k p) = refused_word ++ printed_natural k ++ (space ∷ printed_natural p) ++ (newline ∷ [])
printed (done r) = ring_word ++ printed_natural (length r) ++ (newline ∷ printed_corners r)

-- the ring of the samples, once all text is good and 3 is tested
abbrev pub ring_of_text : Answer (List Stream) → Answer (List Stream)
ring_of_text (refused k p) = refused k p
ring_of_text (done xs) = unless (part_beyond xs ∷ []) (ring xs)

-- what the program writes for what it reads
unfoldable pub program : List ℕ → List ℕ
program bs = printed (ring_of_text (samples bs))
