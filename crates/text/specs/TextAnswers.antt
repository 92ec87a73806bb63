-- What the reader's values say in the rules' words, and the outcome of reading a text.
-- Assumes nothing.
use Rattle.std.specs.Prelude.{◌≡◌, List, [], ◌∷◌, ℕ, ◌≤◌, ℤ, length, refl, Option as Held, Some, None, IsSome}
use denote.Ref.{Bor}
use Rattle.std.proofs.Math.Option.{Option, none, some}
use Rattle.rules.specs.Streams.{Stream}
use Rattle.rules.specs.Refusals.{Answer, refused, done, unless}
use Rattle.rules.specs.Entries.{ring_short}
use Rattle.rules.specs.Program.{Cut, unbroken, broken, line, samples}
use Rattle.samples.specs.HeldStream.{stream_of}
use Rattle.samples.specs.declared.streams.Stream as held
use Rattle.text.specs.declared.reading.First.{First}

-- ---- the outcome

-- "an output list shorter than the result", after what the text itself is refused for
abbrev pub with_room : List ℤ → List ℤ → Answer (List Stream) → Answer (List Stream)
with_room east north (refused k p) = refused k p
with_room east north (done xs) = unless (ring_short east north xs ∷ []) xs

unfoldable pub samples_answer : List ℕ → List ℤ → List ℤ → Answer (List Stream)
samples_answer bs east north = with_room east north (samples bs)

-- ---- the leaves

-- an optional value of the code
abbrev pub option_as : {A : Type 0} → Held A → Option A
option_as (Some x) = some x
option_as None = none

abbrev pub line_as : Held held.Stream → Option Stream
line_as (Some s) = some (stream_of s)
line_as None = none

abbrev pub cut_as : List ℕ → Held (Bor (List ℕ) × Bor (List ℕ)) → Cut
cut_as s (Some p) = broken p.0.now p.1.now
cut_as s None = unbroken s

-- ---- a line in its text

-- what the first line of a text gives: its sample, and the text after its newline
pub data Next : Type 0 where
  bad_line : Next
  good_line : Stream → List ℕ → Next

abbrev pub before_rest : Option Stream → List ℕ → Next
before_rest none rest = bad_line
before_rest (some s) rest = good_line s rest

-- a line without its newline is bad
abbrev pub next_line : Cut → Next
next_line (unbroken l) = bad_line
next_line (broken l rest) = before_rest (line l) rest

abbrev pub first_as : Held First → Next
first_as (Some f) = good_line (stream_of f.sample) f.rest.now
first_as None = bad_line

pub first_there : (r : Held First) → (first_as r ≡ bad_line → ⊥) → IsSome r
first_there (Some f) h = refl
first_there None h = absurd (h refl)

-- a good text of so many samples, and room for them
pub record Fit (bs : List ℕ) (count : ℕ) (east north : List ℤ) : Type 0 where
  pub all : List Stream
  pub good : samples bs ≡ done all
  pub many : count ≡ length all
  pub east_room : count ≤ length east
  pub north_room : count ≤ length north
