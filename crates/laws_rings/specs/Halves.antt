-- A ring by its two halves, both in ring order: the upper chain, and the upper chain of the streams turned about, turned back. Each half is an upper chain
-- up to the turning, so one function serves both, and one position or one line is no case of its own. Assumes nothing.
use Rattle.std.specs.Prelude.{◌≡◌, Bool, true, false, List, ◌++◌, map, reverse}
use Rattle.std.proofs.Common.{sym, ap, ◌∙◌}
use Rattle.rules.specs.Streams.{Stream, turned}
use Rattle.rules.specs.Chain.{upper, lower}
use Rattle.rules.specs.Ring.{first_of, last_of, leave_first, leave_last, closed, ring}
use Rattle.rules.specs.Use.{turn_about}
use Rattle.laws_outline.specs.ListLaws.{map-twice}
use Rattle.laws_outline.specs.Sidedness.{turned-twice}
use Rattle.laws_rings.specs.Reversed.{map-reverse}
use Rattle.laws_rings.specs.FromBehind.{upper-turned}
use Rattle.laws_rings.specs.Rings.{upper_of_ring}
use Rattle.laws_rings.specs.Turning.{turn-ring}

-- the half that goes there, and the half that goes back
abbrev pub half : Bool → List Stream → List Stream
half false xs = upper xs
half true xs = map turned (upper (map turned xs))

-- the ring that goes over U and back over R, without the first of R if that is the last of U, and without its last if that is the first of U
abbrev pub around : List Stream → List Stream → List Stream
around U R = U ++ leave_last (first_of U) (leave_first (last_of U) R)

pub back-half : (xs : List Stream) → half true xs ≡ reverse (lower xs)
back-half xs =
    ap (map turned) (upper-turned xs) ∙ map-reverse turned (map turned (lower xs)) ∙ ap reverse (map-twice turned turned-twice (lower xs))

-- THE LAW
pub ring_halves : (xs : List Stream) → ring xs ≡ around (half false xs) (half true xs)
unfolding ring closed
ring_halves xs = ap (around (upper xs)) (sym (back-half xs))

-- the halves of a ring are those of the streams behind it
pub half_of_ring : (back : Bool) (xs : List Stream) → half back (ring xs) ≡ half back xs
unfolding turn_about
half_of_ring false xs = upper_of_ring xs
half_of_ring true xs = ap (map turned) (sym (upper_of_ring (map turned (ring xs))) ∙ ap upper (turn-ring xs) ∙ upper_of_ring (map turned xs))
