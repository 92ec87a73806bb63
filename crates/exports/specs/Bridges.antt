-- What the C face of the bridge gives for each answer of the rules: number 0 and the two ends, or the refusal's number and place.
-- Assumes nothing.
use Rattle.std.specs.Prelude.{ℕ}
use Rattle.rules.specs.Bridge.{Bridge}
use Rattle.rules.specs.Refusals.{Answer, refused, done}
use Rattle.exports.specs.declared.bridges.Bridged.{Bridged}

abbrev pub bridge_face : Answer (Bridge ℕ) → Bridged
bridge_face (done b) = record { number = 0; place = 0; left = b.left; right = b.right }
bridge_face (refused number place) = record { number = number; place = place; left = 0; right = 0 }
