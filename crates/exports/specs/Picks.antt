-- What the C face of the rank picker gives for each answer of the rules: number 0 and the value, or the refusal's number and place.
-- Assumes nothing.
use Rattle.std.specs.Prelude.{ℤ, pos}
use Rattle.rules.specs.Refusals.{Answer, refused, done}
use Rattle.exports.specs.declared.picks.PickedC.{PickedC}

abbrev pub picked_face : Answer ℤ → PickedC
picked_face (done z) = record { number = 0; place = 0; value = z }
picked_face (refused number place) = record { number = number; place = place; value = pos 0 }
