-- What the C face of the chains gives for each answer of the rules: number 0 and the two counts, or the refusal's number and place.
-- Assumes nothing.
use Rattle.std.specs.Prelude.{◌≡◌, refl, List, ℕ, length}
use Rattle.rules.specs.Refusals.{Answer, refused, done}
use Rattle.rules.specs.Entries.{Chains}
use Rattle.chains.specs.Promise.{counted}
use Rattle.chains.specs.declared.Counts.{Counts}
use Rattle.exports.specs.declared.chained.ChainsC.{ChainsC}

abbrev pub chains_face : Answer Chains → ChainsC
chains_face (done c) = record { number = 0; place = 0; upper = length c.upper; lower = length c.lower }
chains_face (refused number place) = record { number = number; place = place; upper = 0; lower = 0 }

-- the same, from the counts that the entry answers
abbrev pub counts_face : Answer Counts → ChainsC
counts_face (done c) = record { number = 0; place = 0; upper = c.upper; lower = c.lower }
counts_face (refused number place) = record { number = number; place = place; upper = 0; lower = 0 }

pub counts_are : (a : Answer Chains) → counts_face (counted a) ≡ chains_face a
counts_are (done c) = refl
counts_are (refused number place) = refl

-- the two chains, as they are written to the outputs
abbrev pub uppers : Chains → List ℕ
uppers c = c.upper

abbrev pub lowers : Chains → List ℕ
lowers c = c.lower
