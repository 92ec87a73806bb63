-- Once round a ring of m corners: m steps from the start answer the edges 0 to 1, 1 to 2, and so on to m - 1 to 0, each once, and hand back the first hand.
-- Assumes nothing.
use Rattle.std.specs.Prelude.{◌≡◌, refl, List, [], ◌∷◌, map, ℕ, zero, suc, ◌+◌, ◌≤◌}
use Rattle.std.proofs.Common.{add-one, arith, le-ltb, eq-eqb, ne_eqb}
use Rattle.std.proofs.lemmas.Bool.{lt-leb}
use Rattle.rules.specs.Streams.{most}
use Rattle.rules.specs.Use.{HandAt, hand_for, moved_on}
use Rattle.rules.specs.Refusals.{Answer, done}
use Rattle.rules.specs.Entries.{HandStep, hand_step_answer, hand_after}

abbrev pub hand : ℕ → ℕ → HandAt
hand count place = record { count = count; place = place }

abbrev pub edge : ℕ → ℕ → HandStep
edge a b = record { from = a; to = b }

-- what so many steps answer, one after the other
unfoldable pub answers : ℕ → HandAt → List (Answer HandStep)
answers zero h = []
answers (suc k) h = hand_step_answer h ∷ answers k (hand_after (hand_step_answer h) h)

-- the hand after so many steps
unfoldable pub after : ℕ → HandAt → HandAt
after zero h = h
after (suc k) h = after k (hand_after (hand_step_answer h) h)

-- from place i so many edges up, each to the next place, and then the edge to place 0
unfoldable pub up_and_back : ℕ → ℕ → List HandStep
up_and_back i zero = edge i 0 ∷ []
up_and_back i (suc k) = edge i (suc i) ∷ up_and_back (suc i) k

-- a step at a place that is not the last
up : (m i : ℕ) → m ≤ most → suc (suc i) ≤ m →
    (hand_step_answer (hand m i) ≡ done (edge i (suc i))) × (moved_on (hand m i) ≡ hand m (suc i))
unfolding hand_step_answer
up m i few h = simp (le-ltb most m few, lt-leb m i (omega arith), ne_eqb (suc i) m (omega arith), add-one) (refl, refl)

-- the step at the last place
back : (i : ℕ) → suc i ≤ most →
    (hand_step_answer (hand (suc i) i) ≡ done (edge i 0)) × (moved_on (hand (suc i) i) ≡ hand_for (suc i))
unfolding hand_step_answer
back i few = simp (le-ltb most (suc i) few, lt-leb (suc i) i (omega arith), eq-eqb (suc i) (suc i) refl, add-one) (refl, refl)

-- one step before others
step-first : (h g z : HandAt) (e : HandStep) (k : ℕ) (es : List HandStep) →
    (hand_step_answer h ≡ done e) × (moved_on h ≡ g) →
    (answers k g ≡ map done es) × (after k g ≡ z) →
    (answers (suc k) h ≡ map done (e ∷ es)) × (after (suc k) h ≡ z)
unfolding answers after
step-first h g z e k es s r = rw (s.0, s.1, r.0, r.1) (refl, refl)

-- the steps that are left from place i
from_place : (k m i : ℕ) → m ≤ most → m ≡ suc i + k →
    (answers (suc k) (hand m i) ≡ map done (up_and_back i k)) × (after (suc k) (hand m i) ≡ hand_for m)
unfolding answers after up_and_back
from_place zero m i few at =
    let e : m ≡ suc i = omega arith in
    rw e (step-first (hand (suc i) i) (hand_for (suc i)) (hand_for (suc i)) (edge i 0) 0 [] (back i (omega arith)) (refl, refl))
from_place (suc k) m i few at =
    step-first (hand m i) (hand m (suc i)) (hand_for m) (edge i (suc i)) (suc k) (up_and_back (suc i) k)
    (up m i few (omega arith))
    (from_place k m (suc i) few (omega arith))

-- m is k + 1
pub once-round : (k : ℕ) → suc k ≤ most →
    (answers (suc k) (hand_for (suc k)) ≡ map done (up_and_back 0 k)) × (after (suc k) (hand_for (suc k)) ≡ hand_for (suc k))
once-round k few = from_place k (suc k) 0 few (omega arith)
