-- The sum, over the promise of the entry: a call that is done leaves the sum of its two rings at the front of both outputs, and an empty ring makes it empty. A
-- call is any that the entry's own promise allows. Assumes nothing.
use Rattle.std.specs.Prelude.{◌≡◌, ◌⊎◌, List, [], ◌∷◌, ℕ, ◌+◌, ◌≤◌, length, Ok}
use Rattle.std.proofs.Common.{ap, ◌∙◌, ⊎_elim, arith}
use Rattle.rules.specs.Streams.{Stream}
use Rattle.rules.specs.Use.{sum}
use Rattle.rules.specs.Entries.{ring_short, sum_beyond, sum_answer}
use Rattle.laws_sums.specs.Sums.{sum_empty_left, sum_empty_right}
use Rattle.laws_sums.specs.FewCorners.{sum_few}
use Rattle.samples.specs.Samples.{streams-length}
use Rattle.sum.proofs.sum.Reads as reads
use Rattle.demands.specs.TwoRings.{Call, Done, east, north, east2, north2, first, second, east_before, north_before, when_answered}

-- a call of the sum
abbrev pub Adding : Type 1
Adding = Call reads.Post

abbrev pub both : Adding → List Stream
both c = sum (first c) (second c)

pub adding_done : (c : Adding) {n : ℕ} → c.answer ≡ Ok n → Done c (both c) n
unfolding sum_answer
adding_done c e = when_answered c (sum_beyond (both c) ∷ ring_short (east_before c) (north_before c) (both c) ∷ []) (both c) c.promised e

-- "Adding an empty ring gives an empty ring"
pub empty_added : (c : Adding) {n : ℕ} → c.answer ≡ Ok n → (first c ≡ []) ⊎ (second c ≡ []) → n ≡ 0
empty_added c e h = (adding_done c e).left.count ∙ ap length (⊎_elim on_left on_right h)
  where
    on_left : first c ≡ [] → both c ≡ []
    on_left h = ap (λ (r : List Stream). sum r (second c)) h ∙ sum_empty_left (second c)

    on_right : second c ≡ [] → both c ≡ []
    on_right h = ap (sum (first c)) h ∙ sum_empty_right (first c)

-- it has at most as many corners as both rings together
pub few_added : (c : Adding) {n : ℕ} → c.answer ≡ Ok n → n ≤ length (east c) + length (east2 c)
few_added c e =
    let d = adding_done c e in
    omega (arith, d.left.count, sum_few (first c) (second c) d.ring_given d.ring2_given, streams-length (east c) (north c) d.even, streams-length (east2 c) (north2 c) d.even2)
