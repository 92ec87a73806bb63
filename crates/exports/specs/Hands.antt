-- What the C face of the ring hand gives for each answer of the rules: number 0 and the values, or the refusal's number and place.
-- Assumes nothing.
use Rattle.rules.specs.Use.{HandAt}
use Rattle.rules.specs.Refusals.{Answer, refused, done}
use Rattle.rules.specs.Entries.{HandStep, hand_after}
use Rattle.exports.specs.declared.hands.HandC.{HandC}
use Rattle.exports.specs.declared.hands.HandMade.{HandMade}
use Rattle.exports.specs.declared.hands.HandStepped.{HandStepped}

abbrev pub hand_at : HandC → HandAt
hand_at h = record { count = h.count; place = h.place }

abbrev pub hand_back : HandAt → HandC
hand_back h = record { count = h.count; place = h.place }

abbrev pub made_face : Answer HandAt → HandMade
made_face (done h) = record { number = 0; place = 0; hand = hand_back h }
made_face (refused number place) = record { number = number; place = place; hand = record { count = 0; place = 0 } }

abbrev pub edge_face : Answer HandStep → HandC → HandStepped
edge_face (done e) h = record { number = 0; place = 0; from = e.from; to = e.to; hand = h }
edge_face (refused number place) h = record { number = number; place = place; from = 0; to = 0; hand = h }

-- the hand handed back: one place on, or as it came
abbrev pub stepped_face : Answer HandStep → HandAt → HandStepped
stepped_face a h = edge_face a (hand_back (hand_after a h))
