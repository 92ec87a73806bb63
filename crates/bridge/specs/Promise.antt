-- What the rounds ask of a list, and the promise of the bridge: its answer, and the scratch that it leaves, as the rules have them.
-- Assumes nothing.
use Rattle.std.specs.Prelude.{◌≡◌, ℕ, ◌*◌, ◌≤◌, true, not, List, [], ◌∷◌, ◌++◌, map, length, take, ℤ, Result}
use Rattle.rules.specs.Streams.{Stream, streams}
use Rattle.rules.specs.Bridge.{Bridge, ends, spans}
use Rattle.rules.specs.Refusals.{Test, test, scratch_after}
use Rattle.rules.specs.Entries.{bridge_answer}
use Rattle.samples.specs.Positions.{Listed}
use Rattle.samples.specs.InOrder.{room_tests}
use Rattle.samples.specs.Answers.{answer_as}
use Rattle.samples.specs.declared.refusals.Refusal.{Refusal}
use Rattle.bridge.specs.declared.Ends.{Ends}

-- a list of t samples at the front of w, some with east at most a and some with east above a, and room behind it for a round
pub record BridgeAsks (count : ℕ) (at : ℕ → Stream) (a : ℤ) (w : List ℕ) (t : ℕ) : Type 0 where
  pub listed : Listed count (take t w)
  pub spanned : spans a (map at (take t w)) ≡ true
  pub room : 3 * t ≤ length w

-- the bridge that two ends are, in the rules' words
abbrev pub ends_of : Ends → Bridge ℕ
ends_of e = ends e.left e.right

-- for the samples, a and the scratch that are given: what is answered, and the scratch that is left
pub record BridgePromise (es ns : List ℤ) (a : ℤ) (scratch : List ℕ) (r : Result Ends Refusal) (left : List ℕ) : Type 0 where
  pub answer : answer_as ends_of r ≡ bridge_answer es ns a scratch
  pub scratch-is : left ≡ scratch_after (bridge_answer es ns a scratch) scratch

-- the tests, with so many words of scratch
abbrev pub bridge_tests : List ℤ → List ℤ → ℤ → ℕ → List Test
bridge_tests es ns a room = room_tests es ns room ++ (test 6 0 (not (spans a (streams es ns))) ∷ [])
