-- What a result of the C face tells of each answer of the rules: number 0, place 0 and what is done, or the refusal's number and place, and nothing.
-- Assumes nothing.
use Rattle.std.specs.Prelude.{ℕ}
use Rattle.rules.specs.Refusals.{Answer, refused, done}

abbrev pub number_told : {A : Type 0} → Answer A → ℕ
number_told (done x) = 0
number_told (refused number place) = number

abbrev pub place_told : {A : Type 0} → Answer A → ℕ
place_told (done x) = 0
place_told (refused number place) = place

abbrev pub value_told : {A : Type 0} → A → Answer A → A
value_told nothing (done x) = x
value_told nothing (refused number place) = nothing
