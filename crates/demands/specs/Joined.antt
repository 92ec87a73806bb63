-- The join, over the promise of the entry: a call that is done leaves the join of its two rings at the front of both outputs; and a stream changes nothing when
-- it is joined exactly if the ring covers it. A call is any that the entry's own promise allows. Assumes nothing.
use Rattle.std.specs.Prelude.{◌≡◌, List, [], ◌∷◌, ℕ, length, take, Ok, true, false}
use Rattle.std.proofs.Common.{sym, ap, ap₂, ◌∙◌}
use Rattle.rules.specs.Streams.{Stream, streams}
use Rattle.rules.specs.Ring.{ring}
use Rattle.rules.specs.Use.{envelope, join}
use Rattle.rules.specs.Entries.{ring_short, join_answer}
use Rattle.laws_rings.specs.Rings.{envelope-ring}
use Rattle.join.proofs.join.Reads as reads
use Rattle.demands.specs.Done.{left-ring, left_as_given}
use Rattle.demands.specs.TwoRings.{Call, Done, first, second, east, north, east_before, north_before, east_after, north_after, when_answered}
use Rattle.demands.specs.Covered as covers

-- a call of the join
abbrev pub Joining : Type 1
Joining = Call reads.Post

abbrev pub both : Joining → List Stream
both c = join (first c) (second c)

pub joining_done : (c : Joining) {n : ℕ} → c.answer ≡ Ok n → Done c (both c) n
unfolding join_answer
joining_done c e = when_answered c (ring_short (east_before c) (north_before c) (both c) ∷ []) (both c) c.promised e

-- ---- a stream that a ring covers

pub covered_changes_nothing : (k : covers.Call) → k.answer ≡ Ok true → (c : Joining) {n : ℕ} → c.answer ≡ Ok n
    → first c ≡ covers.corners k → second c ≡ covers.asked k ∷ []
    → (n ≡ length (east c)) × (take n (east_after c) ≡ east c) × (take n (north_after c) ≡ north c)
unfolding join
covered_changes_nothing k y c {n} e h g =
    let d = joining_done c e in
    let r : ring (covers.corners k) ≡ covers.corners k = (envelope-ring (covers.corners k)).0 (ap envelope (sym h) ∙ d.ring_given) in
    left_as_given d.left d.even (ap₂ join h g ∙ covers.covered_behind k y (covers.corners k) r ∙ r ∙ sym h)

-- and one that is not covered changes something
pub uncovered_changes : (k : covers.Call) → k.answer ≡ Ok false → (c : Joining) {n : ℕ} → c.answer ≡ Ok n
    → first c ≡ covers.corners k → second c ≡ covers.asked k ∷ []
    → take n (east_after c) ≡ east c → take n (north_after c) ≡ north c → ⊥
uncovered_changes k n c e h g u v =
    covers.uncovered_changes k n (sym (ap₂ join h g) ∙ sym (left-ring (joining_done c e).left) ∙ ap₂ streams u v ∙ h)
