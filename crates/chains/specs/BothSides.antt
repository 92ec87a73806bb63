-- What is asked and said of one side, and of both.
-- Assumes nothing.
use Rattle.std.specs.Prelude.{◌≡◌, Bool, true, false, List, ℕ, ◌+◌, ◌*◌, ◌≤◌, ℤ, length, take, drop, Option, Some, None, Result, Ok, Err}
use Rattle.rules.specs.Streams.{streams}
use Rattle.rules.specs.Chain.{upper_numbers, lower_numbers}
use Rattle.rules.specs.Refusals.{Answer, refused, done, unless, scratch_after}
use Rattle.rules.specs.Entries.{Chains, sample_tests}
use Rattle.samples.specs.Answers.{number_of}
use Rattle.samples.specs.declared.refusals.Refusal.{Refusal}
use Rattle.chains.specs.declared.Counts.{Counts}

-- the numbers of a side's chain as they are reported
abbrev pub side_numbers : List ℤ → List ℤ → Bool → List ℕ
side_numbers es ns true = lower_numbers (streams es ns)
side_numbers es ns false = upper_numbers (streams es ns)

-- no more samples than may be, and room for the first list and its steps
pub record SideAsks (es : List ℤ) (w : List ℕ) : Type 0 where
  pub few : length es ≤ 65536
  pub room : 4 * (length es + 2) ≤ length w

-- the numbers of the side's chain stand at the front, m of them
pub record SideIs (es ns : List ℤ) (lower : Bool) (m : ℕ) (after : List ℕ) : Type 0 where
  pub numbers : take m after ≡ side_numbers es ns lower
  pub few : m ≤ length es + 2

-- there is always a bridge
abbrev pub SideSays : List ℤ → List ℤ → Bool → Option ℕ → List ℕ → Type 0
SideSays es ns lower (Some m) after = SideIs es ns lower m after
SideSays es ns lower None after = ⊥

-- the upper chain stands at the front, u numbers, and the lower chain behind it, v numbers
pub record BothAre (es ns : List ℤ) (u v : ℕ) (after : List ℕ) : Type 0 where
  pub upper_is : take u after ≡ upper_numbers (streams es ns)
  pub lower-is : take v (drop u after) ≡ lower_numbers (streams es ns)
  pub inside : u + v ≤ length after

-- ---- both sides of any two lists

-- 1, 2, 3, 4, 18
abbrev pub tested : List ℤ → List ℤ → List ℕ → Answer (Unit {0})
tested es ns scratch = unless (sample_tests es ns scratch) tt

-- the first test that holds refuses, and the scratch is left as after such a refusal
pub record SidesRefused (es ns : List ℤ) (scratch : List ℕ) (number place : ℕ) (after : List ℕ) : Type 0 where
  pub tests : tested es ns scratch ≡ refused number place
  pub scratch-is : after ≡ scratch_after {A = Chains} (refused number place) scratch

-- none holds, and both chains stand in the scratch
pub record SidesMade (es ns : List ℤ) (scratch : List ℕ) (c : Counts) (after : List ℕ) : Type 0 where
  pub tests : tested es ns scratch ≡ done tt
  pub both : BothAre es ns c.upper c.lower after

abbrev pub SidesSay : List ℤ → List ℤ → List ℕ → Result Counts Refusal → List ℕ → Type 0
SidesSay es ns scratch (Ok c) after = SidesMade es ns scratch c after
SidesSay es ns scratch (Err r) after = SidesRefused es ns scratch (number_of r.reason) r.place after
