-- An answer as it is told by a count, and the parts of its streams in the outputs. Assumes nothing.
use Rattle.std.specs.Prelude.{◌≡◌, refl, List, [], ◌∷◌, ℕ, length, take, drop}
use Rattle.std.proofs.Common.{ap, arith, take_at}
use Rattle.rules.specs.Streams.{Stream, streams}
use Rattle.rules.specs.Lists.{written}
use Rattle.rules.specs.Refusals.{Answer, refused, done}
use Rattle.rules.specs.Entries.{easts, norths, counted}

-- a done count comes of a done answer
pub counted_done : {A : Type 0} (a : Answer (List A)) {n : ℕ} → done n ≡ counted a → (r : List A) × (a ≡ done r) × (n ≡ length r)
counted_done (done r) e = (r, refl, cc)
counted_done (refused number place) e = absurd (let z : ◌≡◌ {A = ℕ} 0 1 = cc in omega arith)

-- what is written at the front can be read there
pub front : {A : Type 0} (result old : List A) (n : ℕ) → length result ≡ n → take n (written result old) ≡ result
front result old n e = take_at result (drop (length result) old) n e

-- a ring is its parts again
pub streams-parts : (r : List Stream) → streams (easts r) (norths r) ≡ r
unfolding streams
streams-parts [] = refl
streams-parts (p ∷ r) = ap (λ (l : List Stream). p ∷ l) (streams-parts r)
