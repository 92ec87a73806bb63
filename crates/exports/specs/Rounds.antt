-- What the C face of a round gives for each answer of the rules: number 0 and the bridge or the count of the kept list, or the refusal's number and place.
-- Assumes nothing.
use Rattle.std.specs.Prelude.{◌≡◌, refl, ℕ, length}
use Rattle.rules.specs.Round.{Said, found, kept}
use Rattle.rules.specs.Refusals.{Answer, refused, done}
use Rattle.round.specs.Promise.{Told, bridge_of, count_of, telling}
use Rattle.exports.specs.declared.rounds.RoundSaid.{RoundSaid}

abbrev pub round_face : Answer (Said ℕ) → RoundSaid
round_face (done (found b)) = record { number = 0; place = 0; kind = 1; left = b.left; right = b.right; kept = 0 }
round_face (done (kept l)) = record { number = 0; place = 0; kind = 2; left = 0; right = 0; kept = length l }
round_face (refused number place) = record { number = number; place = place; kind = 0; left = 0; right = 0; kept = 0 }

-- the same, from what the entry tells
abbrev pub told_face : Answer Told → RoundSaid
told_face (done (bridge_of b)) = record { number = 0; place = 0; kind = 1; left = b.left; right = b.right; kept = 0 }
told_face (done (count_of n)) = record { number = 0; place = 0; kind = 2; left = 0; right = 0; kept = n }
told_face (refused number place) = record { number = number; place = place; kind = 0; left = 0; right = 0; kept = 0 }

pub told_is : (a : Answer (Said ℕ)) → told_face (telling a) ≡ round_face a
told_is (done (found b)) = refl
told_is (done (kept l)) = refl
told_is (refused number place) = refl
