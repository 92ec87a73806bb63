-- The soundings that the rules mark P, as one table under a single claim, computed from the definitions; the rules' easy slips, each shut out by an
-- example; the rules' text example with its output; and records as they are written and read, in every version and sense.
-- Assumes nothing.
use Rattle.std.specs.Prelude.{◌≡◌, refl, true, false, List, [], ◌∷◌, ℕ, ℤ, pos, negsuc, replicate}
use Rattle.std.proofs.Math.Option.{some}
use Rattle.rules.specs.Lists.{those, some_of, all_of, first_place, best_from, best, insert, sorted, alike}
use Rattle.rules.specs.Streams.{Stream, stream, streams, within, beyond, same, side}
use Rattle.rules.specs.Chain.{leftmost, rightmost, left_end, right_end, furthest_round, next_corner, corners, upper, lower, lowest, upper_numbers, lower_numbers}
use Rattle.rules.specs.Ring.{closed, ring}
use Rattle.rules.specs.Picker.{ranked, rank}
use Rattle.rules.specs.Step.{cut, left_list, right_list, first_list, cut_bridge, steps, chain_by_steps}
use Rattle.rules.specs.Bridge.{ends, edge_over, bridge, spans, reported}
use Rattle.rules.specs.Round.{Slope, Said, found, kept, slope_le, height, middle_slope, paired, slopes, keep, left_top, right_top, round_with, round}
use Rattle.rules.specs.Use.{envelope, set_on, strongest, strongest_place, between, beside, covers, join, sums, sum, turn_about}
use Rattle.rules.specs.Record.{in_sense, word, twos, corners_at, corners_in, word_of, corners_bytes, record_of}
use Rattle.rules.specs.Refusals.{Answer, refused, done, scratch_after}
use Rattle.rules.specs.Entries.{bridge_answer, round_answer, strongest_answer, cover_answer, record_answer, write_answer, sum_answer}
use Rattle.rules.specs.Program.{decimal, unsigned, number, cut_at, line, text, samples, digits, printed_natural, printed_whole, printed_corners, printed, program}

-- ---- input A, and enough scratch for it

abbrev pub A_easts : List ℤ
A_easts = pos 0 ∷ pos 4 ∷ pos 4 ∷ pos 0 ∷ pos 2 ∷ pos 2 ∷ pos 4 ∷ []

abbrev pub A_norths : List ℤ
A_norths = pos 0 ∷ pos 0 ∷ pos 3 ∷ pos 3 ∷ pos 1 ∷ pos 5 ∷ pos 0 ∷ []

abbrev pub A_scratch : List ℕ
A_scratch = replicate 176 7

unfoldable pub A : List Stream
A = streams A_easts A_norths

-- the ring of A
unfoldable pub A_ring : List Stream
A_ring = stream (pos 0) (pos 3) ∷ stream (pos 2) (pos 5) ∷ stream (pos 4) (pos 3) ∷ stream (pos 4) (pos 0) ∷ stream (pos 0) (pos 0) ∷ []

abbrev pub A_ring_easts : List ℤ
A_ring_easts = pos 0 ∷ pos 2 ∷ pos 4 ∷ pos 4 ∷ pos 0 ∷ []

abbrev pub A_ring_norths : List ℤ
A_ring_norths = pos 3 ∷ pos 5 ∷ pos 3 ∷ pos 0 ∷ pos 0 ∷ []

-- a round over samples of A, into an output of four
unfoldable pub A_round : List ℕ → ℤ → Answer (Said ℕ)
A_round list a = round_answer A_easts A_norths list a (replicate 4 9) A_scratch

-- P9's two rings
unfoldable pub tall : List Stream
tall = stream (pos 2) (pos 5) ∷ stream (pos 2) (pos 1) ∷ []

unfoldable pub flat : List Stream
flat = stream (pos 0) (pos 0) ∷ stream (pos 4) (pos 0) ∷ []

unfoldable pub three : List Stream
three = stream (pos 0) (pos 0) ∷ stream (pos 2) (pos 5) ∷ stream (pos 4) (pos 0) ∷ []

-- ---- the table

pub record Soundings : Type 0 where
  pub P1 : upper_numbers A ≡ 3 ∷ 5 ∷ 2 ∷ []
  pub P2 : lower_numbers A ≡ 0 ∷ 1 ∷ []
  pub P3 : bridge_answer A_easts A_norths (pos 2) A_scratch ≡ done (ends 5 2)
  pub P4 : bridge_answer A_easts A_norths (pos 1) A_scratch ≡ done (ends 3 5)
  pub P5 : bridge_answer A_easts A_norths (pos 4) A_scratch ≡ refused 6 0
  pub P6 : A_round (3 ∷ 4 ∷ 5 ∷ 2 ∷ []) (pos 1) ≡ done (kept (3 ∷ 5 ∷ []))
  pub P7 : A_round (3 ∷ 4 ∷ 5 ∷ 2 ∷ []) (pos 2) ≡ done (found (ends 5 2))
  pub P8 : A_round (3 ∷ 0 ∷ 1 ∷ 2 ∷ []) (pos 2) ≡ done (kept (3 ∷ 2 ∷ []))
  pub P9 : join (ring tall) (ring flat) ≡ three
  pub P10 : turn_about three ≡ stream (negsuc 3) (pos 0) ∷ stream (pos 0) (pos 0) ∷ stream (negsuc 1) (negsuc 4) ∷ []
  pub P11 : strongest_answer A_ring_easts A_ring_norths (negsuc 0) (pos 1) ≡ done (record { set = pos 3; place = 0 })
  pub P12 : cover_answer A_ring_easts A_ring_norths (pos 2) (pos 1) ≡ done true

pub soundings : Soundings
unfolding A A_ring A_round tall flat three those some_of all_of first_place best_from best insert sorted alike streams within beyond same side leftmost rightmost left_end right_end furthest_round next_corner corners upper lower lowest upper_numbers lower_numbers closed ring ranked rank edge_over bridge spans reported slope_le height middle_slope paired slopes keep left_top right_top round_with round envelope set_on strongest strongest_place between beside covers join turn_about bridge_answer round_answer strongest_answer cover_answer
soundings =
    record {
      P1 = refl;
      P2 = refl;
      P3 = refl;
      P4 = refl;
      P5 = refl;
      P6 = refl;
      P7 = refl;
      P8 = refl;
      P9 = refl;
      P10 = refl;
      P11 = refl;
      P12 = refl;
    }

-- the ring that P11 and P12 are read off is an envelope, as two lists
pub A_ring_stands : (envelope A_ring ≡ true) × (streams A_ring_easts A_ring_norths ≡ A_ring)
unfolding A A_ring those some_of all_of first_place best_from best alike streams same side leftmost left_end furthest_round next_corner corners upper lower closed ring envelope
A_ring_stands = (refl, refl)

-- the steps' recursion gives A's chain
pub A_by_steps : chain_by_steps A ≡ some (stream (pos 0) (pos 3) ∷ stream (pos 2) (pos 5) ∷ stream (pos 4) (pos 3) ∷ [])
unfolding A those some_of first_place best_from best insert sorted streams same side leftmost rightmost left_end right_end furthest_round next_corner corners upper edge_over bridge ranked rank cut left_list right_list first_list cut_bridge steps chain_by_steps
A_by_steps = refl

-- ---- the cover test takes the outline

pub record Outlines : Type 0 where
  -- "(0,1) in A is now yes"; so is each corner; a unit off it is no
  pub on_A : cover_answer A_ring_easts A_ring_norths (pos 0) (pos 1) ≡ done true
  pub corners_of_A : all_of (covers A_ring) A_ring ≡ true
  pub off_A : cover_answer A_ring_easts A_ring_norths (negsuc 0) (pos 1) ≡ done false
  -- "the whole segment between them": an end and the middle, not beyond an end, not beside it
  pub end : covers flat (stream (pos 4) (pos 0)) ≡ true
  pub middle : covers tall (stream (pos 2) (pos 3)) ≡ true
  pub beyond-flat : covers flat (stream (pos 5) (pos 0)) ≡ false
  pub beyond-tall : covers tall (stream (pos 2) (pos 6)) ≡ false
  pub beside-tall : covers tall (stream (pos 3) (pos 3)) ≡ false
  -- "its one position", and "nothing"
  pub one : covers (stream (pos 3) (pos 4) ∷ []) (stream (pos 3) (pos 4)) ≡ true
  pub beside-one : covers (stream (pos 3) (pos 4) ∷ []) (stream (pos 4) (pos 4)) ≡ false
  pub empty : cover_answer [] [] (pos 0) (pos 0) ≡ done false

pub outlines : Outlines
unfolding A_ring tall flat those some_of all_of first_place best_from best alike streams within beyond same side leftmost left_end furthest_round next_corner corners upper lower closed ring envelope between beside covers cover_answer
outlines =
    record {
      on_A = refl;
      corners_of_A = refl;
      off_A = refl;
      end = refl;
      middle = refl;
      beyond-flat = refl;
      beyond-tall = refl;
      beside-tall = refl;
      one = refl;
      beside-one = refl;
      empty = refl;
    }

-- ---- easy slips

-- three streams on one line
unfoldable pub flush : List Stream
flush = stream (pos 0) (pos 0) ∷ stream (pos 1) (pos 1) ∷ stream (pos 2) (pos 2) ∷ []

abbrev pub fraction_of : ℕ → ℕ → Slope
fraction_of n d = record { rise = pos n; run = pos d }

pub record Slips : Type 0 where
  -- "taking the right middle of an even list: with t = 2 no sample is above a"
  pub left-middle : cut (stream (pos 7) (pos 0) ∷ stream (pos 3) (pos 0) ∷ []) ≡ pos 3
  -- "1/3 and 333,333/1,000,000 are not equal"
  pub undivided : slope_le (fraction_of 1 3) (fraction_of 333333 1000000) ≡ false
  -- "(0,0), (1,1), (2,2) has two corners"
  pub no_flush : ring flush ≡ stream (pos 0) (pos 0) ∷ stream (pos 2) (pos 2) ∷ []
  -- "turning about by swapping the chains without reversing them"
  pub reversed : turn_about A_ring ≡ stream (negsuc 3) (pos 0) ∷ stream (pos 0) (pos 0) ∷ stream (pos 0) (negsuc 2) ∷ stream (negsuc 1) (negsuc 4) ∷ stream (negsuc 3) (negsuc 2) ∷ []
  -- "closing a ring without its vertical side: A would lose (4,0) and (0,0)"
  pub with_sides : ring A ≡ A_ring

pub slips : Slips
unfolding A A_ring flush those some_of all_of first_place best_from best insert sorted streams same side leftmost rightmost left_end right_end furthest_round next_corner corners upper lower closed ring ranked rank cut slope_le turn_about
slips = record { left-middle = refl; undivided = refl; no_flush = refl; reversed = refl; with_sides = refl }

-- ---- the sum

-- a sum into outputs of a length, with so much scratch
unfoldable pub sum_from : List ℤ → List ℤ → List ℤ → List ℤ → ℕ → ℕ → Answer (List Stream)
sum_from es ns fs ms output scratch = sum_answer es ns fs ms (replicate output (pos 9)) (replicate output (pos 9)) (replicate scratch 7)

pub record Sums : Type 0 where
  -- two sides that cross; two along one line; a triangle and its turning about; one position moves a ring; an empty ring makes an empty one
  pub crossing : sum_from (pos 0 ∷ pos 2 ∷ []) (pos 0 ∷ pos 0 ∷ []) (pos 0 ∷ pos 0 ∷ []) (pos 1 ∷ pos 0 ∷ []) 4 128
      ≡ done (stream (pos 0) (pos 1) ∷ stream (pos 2) (pos 1) ∷ stream (pos 2) (pos 0) ∷ stream (pos 0) (pos 0) ∷ [])
  pub along : sum_from (pos 0 ∷ pos 1 ∷ []) (pos 0 ∷ pos 1 ∷ []) (pos 0 ∷ pos 2 ∷ []) (pos 0 ∷ pos 2 ∷ []) 2 128
      ≡ done (stream (pos 0) (pos 0) ∷ stream (pos 3) (pos 3) ∷ [])
  pub six : sum_from (pos 0 ∷ pos 1 ∷ pos 1 ∷ []) (pos 0 ∷ pos 1 ∷ pos 0 ∷ []) (negsuc 0 ∷ pos 0 ∷ negsuc 0 ∷ []) (pos 0 ∷ pos 0 ∷ negsuc 0 ∷ []) 6 160
      ≡ done (stream (negsuc 0) (pos 0) ∷ stream (pos 0) (pos 1) ∷ stream (pos 1) (pos 1) ∷ stream (pos 1) (pos 0) ∷ stream (pos 0) (negsuc 0) ∷ stream (negsuc 0) (negsuc 0) ∷ [])
  pub moved : sum_from (pos 10 ∷ []) (negsuc 0 ∷ []) A_ring_easts A_ring_norths 5 160
      ≡ done (stream (pos 10) (pos 2) ∷ stream (pos 12) (pos 4) ∷ stream (pos 14) (pos 2) ∷ stream (pos 14) (negsuc 0) ∷ stream (pos 10) (negsuc 0) ∷ [])
  pub empty : sum_from [] [] A_ring_easts A_ring_norths 0 144 ≡ done []
  pub empty_second : sum_from A_ring_easts A_ring_norths [] [] 5 144 ≡ done []
  -- the limit is met; beyond it: 4 goes before 19, and 19 before 5
  pub limit : sum_from (pos 1000000 ∷ []) (pos 0 ∷ []) (pos 0 ∷ []) (negsuc 999999 ∷ []) 1 96 ≡ done (stream (pos 1000000) (negsuc 999999) ∷ [])
  pub beyond-limit : sum_from (pos 1000000 ∷ []) (pos 0 ∷ []) (pos 1 ∷ []) (pos 0 ∷ []) 1 96 ≡ refused 19 0
  pub four-first : sum_from (pos 1000000 ∷ []) (pos 0 ∷ []) (pos 1 ∷ []) (pos 0 ∷ []) 1 95 ≡ refused 4 0
  pub before_five : sum_from (pos 1000000 ∷ []) (pos 0 ∷ []) (pos 1 ∷ []) (pos 0 ∷ []) 0 96 ≡ refused 19 0
  pub short : sum_from (pos 1 ∷ []) (pos 0 ∷ []) (pos 1 ∷ []) (pos 0 ∷ []) 0 96 ≡ refused 5 0
  -- 19 leaves the scratch as it was, 5 leaves it zero
  pub scratch_left : scratch_after (sum_from (pos 1000000 ∷ []) (pos 0 ∷ []) (pos 1 ∷ []) (pos 0 ∷ []) 0 96) (7 ∷ 7 ∷ []) ≡ 7 ∷ 7 ∷ []
  pub scratch-zero : scratch_after (sum_from (pos 1 ∷ []) (pos 0 ∷ []) (pos 1 ∷ []) (pos 0 ∷ []) 0 96) (7 ∷ 7 ∷ []) ≡ 0 ∷ 0 ∷ []

pub sums-told : Sums
unfolding sum_from those some_of first_place best_from best alike streams within beyond same side leftmost left_end furthest_round next_corner corners upper lower closed ring envelope sums sum sum_answer
sums-told =
    record {
      crossing = refl;
      along = refl;
      six = refl;
      moved = refl;
      empty = refl;
      empty_second = refl;
      limit = refl;
      beyond-limit = refl;
      four-first = refl;
      before_five = refl;
      short = refl;
      scratch_left = refl;
      scratch-zero = refl;
    }

-- ---- the program

-- the text of input A
unfoldable pub A_text : List ℕ
A_text =
    48 ∷ 32 ∷ 48 ∷ 10 ∷ 52 ∷ 32 ∷ 48 ∷ 10 ∷ 52 ∷ 32 ∷ 51 ∷ 10 ∷ 48 ∷ 32 ∷ 51 ∷ 10 ∷ 50 ∷ 32 ∷ 49 ∷ 10 ∷ 50 ∷ 32 ∷ 53 ∷ 10 ∷ 52 ∷ 32 ∷ 48 ∷ 10 ∷ []

-- "ring 5", then the five corners; "ring 0"; "refused 15 3" for a third line that is bad; "refused 15 2" for a second line that is bad, after a line with
-- a part beyond the limit: all text is read before 3 is tested
pub record Texts : Type 0 where
  pub whole : program A_text ≡ 114 ∷ 105 ∷ 110 ∷ 103 ∷ 32 ∷ 53 ∷ 10 ∷ 48 ∷ 32 ∷ 51 ∷ 10 ∷ 50 ∷ 32 ∷ 53 ∷ 10 ∷ 52 ∷ 32 ∷ 51 ∷ 10 ∷ 52 ∷ 32 ∷ 48 ∷ 10 ∷ 48 ∷ 32 ∷ 48 ∷ 10 ∷ []
  pub empty : program [] ≡ 114 ∷ 105 ∷ 110 ∷ 103 ∷ 32 ∷ 48 ∷ 10 ∷ []
  pub third : program (49 ∷ 32 ∷ 49 ∷ 10 ∷ 50 ∷ 32 ∷ 50 ∷ 10 ∷ 45 ∷ 48 ∷ 32 ∷ 50 ∷ 10 ∷ []) ≡ 114 ∷ 101 ∷ 102 ∷ 117 ∷ 115 ∷ 101 ∷ 100 ∷ 32 ∷ 49 ∷ 53 ∷ 32 ∷ 51 ∷ 10 ∷ []
  pub text-first : program (57 ∷ 57 ∷ 57 ∷ 57 ∷ 57 ∷ 57 ∷ 57 ∷ 32 ∷ 48 ∷ 10 ∷ 45 ∷ 48 ∷ 32 ∷ 48 ∷ 10 ∷ []) ≡ 114 ∷ 101 ∷ 102 ∷ 117 ∷ 115 ∷ 101 ∷ 100 ∷ 32 ∷ 49 ∷ 53 ∷ 32 ∷ 50 ∷ 10 ∷ []

pub texts : Texts
unfolding A_text those some_of all_of first_place best_from best within beyond same side leftmost left_end furthest_round next_corner corners upper lower closed ring decimal unsigned number cut_at line text samples digits printed_natural printed_whole printed_corners printed program
texts = record { whole = refl; empty = refl; third = refl; text-first = refl }

-- ---- records

-- the ring (0, 3), (2, -1), and its record in version 1
unfoldable pub pair_easts : List ℤ
pair_easts = pos 0 ∷ pos 2 ∷ []

unfoldable pub pair_norths : List ℤ
pair_norths = pos 3 ∷ negsuc 0 ∷ []

unfoldable pub pair_record : List ℕ
pair_record = 1 ∷ 0 ∷ 0 ∷ 0 ∷ 16 ∷ 0 ∷ 0 ∷ 0 ∷ 0 ∷ 0 ∷ 0 ∷ 0 ∷ 3 ∷ 0 ∷ 0 ∷ 0 ∷ 2 ∷ 255 ∷ 255 ∷ 255 ∷ 255 ∷ []

-- into outputs that are just long enough, and a byte short; the refusals in their order, each where a later one holds too; and the record read again
pub record Records : Type 0 where
  pub empty : write_answer 1 0 [] [] (replicate 5 9) ≡ done (1 ∷ 0 ∷ 0 ∷ 0 ∷ 0 ∷ [])
  pub empty_short : write_answer 1 0 [] [] (replicate 4 9) ≡ refused 5 0
  pub pair : write_answer 1 0 pair_easts pair_norths (replicate 21 9) ≡ done pair_record
  pub pair-short : write_answer 1 0 pair_easts pair_norths (replicate 20 9) ≡ refused 5 0
  pub turned_round : write_answer 1 0 (pos 2 ∷ pos 0 ∷ []) (negsuc 0 ∷ pos 3 ∷ []) [] ≡ refused 9 0
  pub beyond-first : write_answer 1 0 (pos 0 ∷ pos 1000001 ∷ pos 0 ∷ []) (pos 0 ∷ pos 0 ∷ pos 0 ∷ []) [] ≡ refused 3 1
  pub lengths_first : write_answer 1 0 (pos 0 ∷ pos 1000001 ∷ []) (pos 0 ∷ []) [] ≡ refused 1 0
  pub read_again : record_answer pair_record (pos 7 ∷ pos 7 ∷ []) (pos 7 ∷ pos 7 ∷ []) ≡ done (streams pair_easts pair_norths)

pub records : Records
unfolding pair_easts pair_norths pair_record those some_of all_of first_place best_from best alike streams within beyond same side leftmost left_end furthest_round next_corner corners upper lower closed ring envelope word twos in_sense corners_at corners_in word_of corners_bytes record_of record_answer write_answer
records = record {
  empty = refl;
  empty_short = refl;
  pair = refl;
  pair-short = refl;
  turned_round = refl;
  beyond-first = refl;
  lengths_first = refl;
  read_again = refl;
}

-- a record into outputs of one corner
abbrev pub read_one : List ℕ → Answer (List Stream)
read_one bs = record_answer bs (pos 9 ∷ []) (pos 9 ∷ [])

-- what is wrong with a record, and where: no byte; another version, cut or with a length that is no multiple of 8; cut in the head, in a corner; bytes after a
-- corner, after none; a length that is no multiple of 8 in a record that is cut, too long, or as long as it says; and the greatest lengths
pub record Frames : Type 0 where
  pub empty : read_one [] ≡ refused 17 0
  pub version-first : read_one (3 ∷ []) ≡ refused 16 0
  pub version_before_length : read_one (3 ∷ 0 ∷ 0 ∷ 0 ∷ 7 ∷ []) ≡ refused 16 0
  pub head_cut : read_one (1 ∷ 0 ∷ 0 ∷ []) ≡ refused 17 3
  pub no_corners : read_one (1 ∷ 0 ∷ 0 ∷ 0 ∷ 0 ∷ []) ≡ done []
  pub corner-cut : read_one (1 ∷ 0 ∷ 0 ∷ 0 ∷ 8 ∷ 0 ∷ 0 ∷ 0 ∷ 7 ∷ 0 ∷ 0 ∷ 0 ∷ []) ≡ refused 17 12
  pub after-corner : read_one (1 ∷ 0 ∷ 0 ∷ 0 ∷ 8 ∷ 0 ∷ 0 ∷ 0 ∷ 7 ∷ 0 ∷ 0 ∷ 0 ∷ 7 ∷ 0 ∷ []) ≡ refused 20 13
  pub after_none : read_one (1 ∷ 0 ∷ 0 ∷ 0 ∷ 0 ∷ 1 ∷ []) ≡ refused 20 5
  pub odd_cut : read_one (1 ∷ 0 ∷ 0 ∷ 0 ∷ 7 ∷ 0 ∷ []) ≡ refused 21 1
  pub odd_after : read_one (1 ∷ 0 ∷ 0 ∷ 0 ∷ 7 ∷ 0 ∷ 0 ∷ 0 ∷ 7 ∷ 0 ∷ 0 ∷ 0 ∷ 7 ∷ 0 ∷ []) ≡ refused 21 1
  pub odd : read_one (1 ∷ 0 ∷ 0 ∷ 0 ∷ 7 ∷ 0 ∷ 0 ∷ 0 ∷ 7 ∷ 0 ∷ 0 ∷ 0 ∷ []) ≡ refused 21 1
  pub greatest : read_one (1 ∷ 255 ∷ 255 ∷ 255 ∷ 248 ∷ 0 ∷ []) ≡ refused 17 6
  pub greatest_odd : read_one (1 ∷ 255 ∷ 255 ∷ 255 ∷ 255 ∷ 0 ∷ []) ≡ refused 21 1

pub frames : Frames
unfolding some_of alike corners upper lower closed ring envelope in_sense word corners_at corners_in record_answer
frames = record {
  empty = refl;
  version-first = refl;
  version_before_length = refl;
  head_cut = refl;
  no_corners = refl;
  corner-cut = refl;
  after-corner = refl;
  after_none = refl;
  odd_cut = refl;
  odd_after = refl;
  odd = refl;
  greatest = refl;
  greatest_odd = refl;
}

-- ---- records that say which sense

-- the ring (-1, -2), (0, 0), which turned about is (0, 0), (1, 2)
unfoldable pub leg_easts : List ℤ
leg_easts = negsuc 0 ∷ pos 0 ∷ []

unfoldable pub leg_norths : List ℤ
leg_norths = negsuc 1 ∷ pos 0 ∷ []

-- its record in version 2, coming from and going to
unfoldable pub leg_from : List ℕ
leg_from = 2 ∷ 0 ∷ 0 ∷ 0 ∷ 17 ∷ 1 ∷ 0 ∷ 0 ∷ 0 ∷ 0 ∷ 0 ∷ 0 ∷ 0 ∷ 0 ∷ 0 ∷ 0 ∷ 0 ∷ 1 ∷ 0 ∷ 0 ∷ 0 ∷ 2 ∷ []

unfoldable pub leg_to : List ℕ
leg_to = 2 ∷ 0 ∷ 0 ∷ 0 ∷ 17 ∷ 0 ∷ 255 ∷ 255 ∷ 255 ∷ 255 ∷ 255 ∷ 255 ∷ 255 ∷ 254 ∷ 0 ∷ 0 ∷ 0 ∷ 0 ∷ 0 ∷ 0 ∷ 0 ∷ 0 ∷ []

-- a record into outputs of so many corners
unfoldable pub read_into : ℕ → List ℕ → Answer (List Stream)
read_into n bs = record_answer bs (replicate n (pos 9)) (replicate n (pos 9))

pub record Senses : Type 0 where
  -- one corner going to and coming from; two coming from, written in either sense and read again; the empty ring
  pub one-to : read_into 1 (2 ∷ 0 ∷ 0 ∷ 0 ∷ 9 ∷ 0 ∷ 0 ∷ 0 ∷ 0 ∷ 7 ∷ 255 ∷ 255 ∷ 255 ∷ 249 ∷ []) ≡ done (stream (pos 7) (negsuc 6) ∷ [])
  pub one_from : read_into 1 (2 ∷ 0 ∷ 0 ∷ 0 ∷ 9 ∷ 1 ∷ 0 ∷ 0 ∷ 0 ∷ 7 ∷ 255 ∷ 255 ∷ 255 ∷ 249 ∷ []) ≡ done (stream (negsuc 6) (pos 7) ∷ [])
  pub two_from : read_into 2 leg_from ≡ done (streams leg_easts leg_norths)
  pub two_to : read_into 2 leg_to ≡ done (streams leg_easts leg_norths)
  pub written_from : write_answer 2 1 leg_easts leg_norths (replicate 22 9) ≡ done leg_from
  pub written-to : write_answer 2 0 leg_easts leg_norths (replicate 22 9) ≡ done leg_to
  pub none_from : read_into 1 (2 ∷ 0 ∷ 0 ∷ 0 ∷ 1 ∷ 1 ∷ []) ≡ done []
  pub none_written : write_answer 2 1 [] [] (replicate 6 9) ≡ done (2 ∷ 0 ∷ 0 ∷ 0 ∷ 1 ∷ 1 ∷ [])
  -- lengths 0 and 1 in version 2, and 8, right in version 1
  pub length_0 : read_into 1 (2 ∷ 0 ∷ 0 ∷ 0 ∷ 0 ∷ []) ≡ refused 21 1
  pub length_1 : read_into 1 (2 ∷ 0 ∷ 0 ∷ 0 ∷ 1 ∷ []) ≡ refused 17 5
  pub length_8 : read_into 1 (2 ∷ 0 ∷ 0 ∷ 0 ∷ 8 ∷ 0 ∷ 0 ∷ 0 ∷ 0 ∷ 7 ∷ 0 ∷ 0 ∷ 0 ∷ []) ≡ refused 21 1
  -- sense 2, alone, in a record that is cut, and where bytes follow; before 2, 3, 9 and 5: with a part beyond the limit, and corners that are no envelope
  pub sense_2 : read_into 1 (2 ∷ 0 ∷ 0 ∷ 0 ∷ 1 ∷ 2 ∷ []) ≡ refused 22 5
  pub sense_2_cut : read_into 1 (2 ∷ 0 ∷ 0 ∷ 0 ∷ 9 ∷ 2 ∷ []) ≡ refused 17 6
  pub sense_2_after : read_into 1 (2 ∷ 0 ∷ 0 ∷ 0 ∷ 1 ∷ 2 ∷ 0 ∷ []) ≡ refused 20 6
  pub sense_2_far : read_into 0 (2 ∷ 0 ∷ 0 ∷ 0 ∷ 9 ∷ 2 ∷ 127 ∷ 0 ∷ 0 ∷ 0 ∷ 0 ∷ 0 ∷ 0 ∷ 0 ∷ []) ≡ refused 22 5
  pub sense_2_ring : read_into 0 (2 ∷ 0 ∷ 0 ∷ 0 ∷ 17 ∷ 2 ∷ 0 ∷ 0 ∷ 0 ∷ 1 ∷ 0 ∷ 0 ∷ 0 ∷ 0 ∷ 0 ∷ 0 ∷ 0 ∷ 0 ∷ 0 ∷ 0 ∷ 0 ∷ 0 ∷ []) ≡ refused 22 5
  -- an envelope is judged as it is stored: (1, 0), (0, 0) is none, though its ring turned about is one; and the place of 3 is that stored
  pub as_stored : read_into 2 (2 ∷ 0 ∷ 0 ∷ 0 ∷ 17 ∷ 1 ∷ 0 ∷ 0 ∷ 0 ∷ 1 ∷ 0 ∷ 0 ∷ 0 ∷ 0 ∷ 0 ∷ 0 ∷ 0 ∷ 0 ∷ 0 ∷ 0 ∷ 0 ∷ 0 ∷ []) ≡ refused 9 0
  pub place-stored : read_into 2 (2 ∷ 0 ∷ 0 ∷ 0 ∷ 17 ∷ 1 ∷ 0 ∷ 0 ∷ 0 ∷ 0 ∷ 0 ∷ 0 ∷ 0 ∷ 0 ∷ 127 ∷ 0 ∷ 0 ∷ 0 ∷ 0 ∷ 0 ∷ 0 ∷ 0 ∷ []) ≡ refused 3 1
  pub no_room : read_into 1 leg_from ≡ refused 5 0
  -- the writer's own, before 1
  pub version_3 : write_answer 3 2 (pos 0 ∷ []) [] [] ≡ refused 16 0
  pub version_0 : write_answer 0 0 (pos 0 ∷ []) [] [] ≡ refused 16 0
  pub from_in_1 : write_answer 1 1 (pos 0 ∷ []) [] [] ≡ refused 22 0
  pub sense-above : write_answer 2 2 (pos 0 ∷ []) [] [] ≡ refused 22 0
  pub lengths_then : write_answer 2 1 (pos 0 ∷ []) [] [] ≡ refused 1 0
  pub short : write_answer 2 1 leg_easts leg_norths (replicate 21 9) ≡ refused 5 0

pub senses : Senses
unfolding leg_easts leg_norths leg_from leg_to read_into those some_of all_of first_place best_from best alike streams within beyond same side leftmost left_end furthest_round next_corner corners upper lower closed ring envelope turn_about in_sense word twos corners_at corners_in word_of corners_bytes record_of record_answer write_answer
senses =
    record {
      one-to = refl;
      one_from = refl;
      two_from = refl;
      two_to = refl;
      written_from = refl;
      written-to = refl;
      none_from = refl;
      none_written = refl;
      length_0 = refl;
      length_1 = refl;
      length_8 = refl;
      sense_2 = refl;
      sense_2_cut = refl;
      sense_2_after = refl;
      sense_2_far = refl;
      sense_2_ring = refl;
      as_stored = refl;
      place-stored = refl;
      no_room = refl;
      version_3 = refl;
      version_0 = refl;
      from_in_1 = refl;
      sense-above = refl;
      lengths_then = refl;
      short = refl;
    }
