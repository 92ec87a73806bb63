-- An envelope by a test of neighbours, in one pass: each corner is looked at with the two before it, the last one also with place 0. That this
-- is the envelope of the rules, "exactly if it equals the ring of its own positions", is a law.
-- Assumes nothing.
use Rattle.std.specs.Prelude.{Bool, true, ◌||◌, ◌&&◌, List, [], ◌∷◌, pos}
use Rattle.std.specs.Int.Signed.{le_z, lt_z}
use Rattle.rules.specs.Streams.{Stream, side}
use Rattle.rules.specs.Chain.{leftmost}

-- at b, come to from a, the ring turns strictly right to c; and from a side that does not go east only to one that goes west. So the sides of a ring
-- go east, then perhaps one straight down, then west
unfoldable pub turns : Stream → Stream → Stream → Bool
turns a b c = lt_z (side a b c) (pos 0) && (lt_z a.east b.east || lt_z c.east b.east)

-- at the last corner b, come to from a, the ring turns strictly right to its first corner, and goes there west or straight up. The turn at the first
-- corner itself needs no test
unfoldable pub closes : Stream → Stream → Stream → Bool
closes a b first = lt_z (side a b first) (pos 0) && le_z first.east b.east

-- the ring goes from a to b, on over the corners C and back to its first corner
unfoldable pub goes_round : Stream → Stream → Stream → List Stream → Bool
goes_round first a b [] = closes a b first
goes_round first a b (c ∷ C) = turns a b c && goes_round first b c C

-- an envelope has no corner, or one, or two of which the first is the left end, or more, of which the second is further east than the first
unfoldable pub neighbourly : List Stream → Bool
neighbourly [] = true
neighbourly (p ∷ []) = true
neighbourly (p ∷ q ∷ []) = leftmost p q
neighbourly (p ∷ q ∷ r ∷ C) = lt_z p.east q.east && goes_round p p q (r ∷ C)
