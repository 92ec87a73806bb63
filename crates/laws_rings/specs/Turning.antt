-- Turning about: from corners alone it gives the envelope of all streams behind with both signs changed; twice gives the ring back; and a join turned
-- about is the join of the turned. Assumes nothing.
use Rattle.std.specs.Prelude.{◌≡◌, true, List, map, reverse, ◌++◌}
use Rattle.std.proofs.Common.{sym, ap, ◌∙◌, subst}
use Rattle.std.proofs.lemmas.List.{map-append}
use Rattle.rules.specs.Streams.{Stream, turned}
use Rattle.rules.specs.Chain.{Of, upper, lower}
use Rattle.rules.specs.Ring.{ring}
use Rattle.rules.specs.Use.{envelope, join, turn_about}
use Rattle.laws_outline.specs.ListLaws.{map-twice, map_in, in_map}
use Rattle.laws_outline.specs.Sidedness.{turned-twice}
use Rattle.laws_outline.specs.Under.{Behind, on_inside, turned-behind}
use Rattle.laws_outline.specs.SameOutline.{ring_equal}
use Rattle.laws_rings.specs.FromBehind.{upper-turned, lower-turned}
use Rattle.laws_rings.specs.Rings.{AllBehind, ring-behind, behind-ring, upper_of_ring, lower_of_ring, envelope-ring, ring-envelope}
use Rattle.laws_rings.specs.Joins.{join_rings}

behind-turned : (xs ys : List Stream) → AllBehind xs ys → AllBehind (map turned xs) (map turned ys)
behind-turned xs ys b s m =
    subst (Behind (Of (map turned ys))) (turned-twice s)
    (on_inside (λ t. in_map turned turned-twice) (turned-behind (b (turned s) (map_in turned turned-twice xs m))))

-- from corners alone, the envelope of all streams behind, turned about
pub turn-ring : (xs : List Stream) → turn_about (ring xs) ≡ ring (map turned xs)
unfolding turn_about
turn-ring xs = ring_equal (behind-turned (ring xs) xs (ring-behind xs)) (behind-turned xs (ring xs) (behind-ring xs))

pub turn-envelope : (r : List Stream) → envelope (turn_about r) ≡ true
unfolding turn_about
turn-envelope r = ring-envelope (map turned r)

pub turn_twice : (r : List Stream) → envelope r ≡ true → turn_about (turn_about r) ≡ r
unfolding turn_about
turn_twice r e = turn-ring (map turned r) ∙ ap ring (map-twice turned turned-twice r) ∙ (envelope-ring r).0 e

pub turn-join : (r t : List Stream) → turn_about (join r t) ≡ join (turn_about r) (turn_about t)
unfolding join turn_about
turn-join r t = turn-ring (r ++ t) ∙ ap ring (map-append turned r t) ∙ sym (join_rings (map turned r) (map turned t))

-- the chains of a ring turned about are its own, changed over, turned and reversed
pub turned-upper : (r : List Stream) → upper (turn_about r) ≡ reverse (map turned (lower r))
unfolding turn_about
turned-upper r = upper_of_ring (map turned r) ∙ upper-turned r

pub turned-lower : (r : List Stream) → lower (turn_about r) ≡ reverse (map turned (upper r))
unfolding turn_about
turned-lower r = lower_of_ring (map turned r) ∙ lower-turned r
