-- "The ring is a list of positions: the upper chain, then the lower chain right to left, leaving out the lower right end if it equals the upper right
-- end and the lower left end if it equals the upper left end. One position gives one corner; all samples on one line give two."
-- Assumes nothing.
use Rattle.std.specs.Prelude.{Bool, false, cond, List, [], ◌∷◌, ◌++◌, reverse}
use Rattle.std.proofs.Math.Option.{Option, none, some}
use Rattle.rules.specs.Streams.{Stream, same}
use Rattle.rules.specs.Chain.{upper, lower}

-- a chain's left end and right end, if it has any
abbrev pub first_of : List Stream → Option Stream
first_of [] = none
first_of (p ∷ C) = some p

abbrev pub last_of : List Stream → Option Stream
last_of [] = none
last_of (p ∷ []) = some p
last_of (p ∷ q ∷ C) = last_of (q ∷ C)

abbrev pub equals : Option Stream → Stream → Bool
equals none p = false
equals (some q) p = same q p

-- the list without its first corner, if that equals a given end; and without its last
abbrev pub leave_first : Option Stream → List Stream → List Stream
leave_first end [] = []
leave_first end (p ∷ R) = cond (equals end p) R (p ∷ R)

abbrev pub leave_last : Option Stream → List Stream → List Stream
leave_last end [] = []
leave_last end (p ∷ []) = cond (equals end p) [] (p ∷ [])
leave_last end (p ∷ q ∷ R) = p ∷ leave_last end (q ∷ R)

-- the ring of an upper and a lower chain
unfoldable pub closed : List Stream → List Stream → List Stream
closed U L = U ++ leave_last (first_of U) (leave_first (last_of U) (reverse L))

unfoldable pub ring : List Stream → List Stream
ring xs = closed (upper xs) (lower xs)
