-- The test of neighbours tells the envelopes, "exactly if it equals the ring of its own positions", from all other lists.
-- Assumes nothing.
use Rattle.std.specs.Prelude.{◌≡◌, refl, Bool, true, false, List, [], ◌∷◌, map, reverse, pos}
use Rattle.std.proofs.Common.{sym, subst}
use Rattle.rules.specs.Streams.{Stream, stream, side}
use Rattle.rules.specs.Chain.{leftmost}
use Rattle.rules.specs.Ring.{ring}
use Rattle.rules.specs.Use.{envelope}
use Rattle.rules.specs.Soundings.{A_ring, tall, flat}
use Rattle.laws_outline.specs.ListLaws.{same_true}
use Rattle.laws_rings.specs.Rings.{envelope-ring}
use Rattle.laws_rings.specs.FewestCorners.{no_samples}
use Rattle.laws_neighbours.specs.NeighbourTest.{turns, closes, goes_round, neighbourly}
use Rattle.laws_neighbours.specs.ListsFit.{Parts, fit_ring, ring-parts}
use Rattle.laws_neighbours.specs.PassingSplits.{split}
use Rattle.laws_neighbours.specs.FitPasses.{fit_passes}

-- what closes from two lists that fit is an envelope and passes
parts-envelope : {r : List Stream} → Parts r → envelope r ≡ true
parts-envelope {r} h = (envelope-ring r).1 (subst (λ (c : List Stream). ring c ≡ c) h.closes (fit_ring h.fit))

parts_pass : {r : List Stream} → Parts r → neighbourly r ≡ true
parts_pass h = subst (λ (c : List Stream). neighbourly c ≡ true) h.closes (fit_passes h.U h.L h.fit)

-- THE LAW: the test answers as the rules do
pub recognised : (r : List Stream) → neighbourly r ≡ envelope r
unfolding neighbourly
recognised [] = sym ((envelope-ring []).1 no_samples)
recognised (x ∷ xs) = same_true (neighbourly (x ∷ xs)) (envelope (x ∷ xs)) (λ e. parts-envelope (split x xs e))
    (λ e. subst (λ (r : List Stream). neighbourly r ≡ true) ((envelope-ring (x ∷ xs)).0 e) (parts_pass (ring-parts x xs)))

-- ---- examples

flush : List Stream
flush = stream (pos 0) (pos 0) ∷ stream (pos 1) (pos 1) ∷ stream (pos 2) (pos 2) ∷ stream (pos 2) (pos 0) ∷ []

entered : List Stream
entered = stream (pos 2) (pos 5) ∷ stream (pos 4) (pos 0) ∷ stream (pos 0) (pos 0) ∷ []

-- A's ring passes, and so do two corners, one below the other or further east. A flush corner does not pass, nor a ring that is entered at another
-- corner than its left end, nor one that goes round the other way
told : map neighbourly (A_ring ∷ tall ∷ flat ∷ flush ∷ entered ∷ reverse A_ring ∷ []) ≡ true ∷ true ∷ true ∷ false ∷ false ∷ false ∷ []
unfolding neighbourly goes_round turns closes side leftmost A_ring tall flat flush entered
told = refl
