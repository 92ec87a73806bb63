-- "Chain step. Ends at one position make no step. A list of t samples, t at least 2, is cut at a, the rank floor(t/2) of its easts. .. The bridge (i, j)
-- over a is found. The left list is i and all samples with east below i's; the right list is j and all with east above j's. The step calls itself on
-- each side whose outer end is not yet reached, on a list that is always shorter. .. The first list is the left end, the right end and all samples
-- strictly between in east. In a list i or j comes first (in the first list the left end, then the right); the rest follow in the order of the list
-- they came from (the first list: sample order)."
-- A list holds positions, repeats and all: which of the samples at a position stands in it changes no position anywhere.
-- Assumes nothing.
use Rattle.std.specs.Prelude.{Bool, true, false, cond, ◌&&◌, List, [], ◌∷◌, ◌++◌, map, ℕ, zero, suc, ◌/◌, ℤ, length}
use Rattle.std.proofs.Math.Option.{Option, none, some}
use Rattle.std.specs.Int.Signed.{lt_z}
use Rattle.rules.specs.Lists.{those}
use Rattle.rules.specs.Streams.{Stream, same}
use Rattle.rules.specs.Chain.{left_end, right_end}
use Rattle.rules.specs.Picker.{rank}
use Rattle.rules.specs.Bridge.{Bridge, bridge}

-- a, the rank floor(t/2) of the easts
unfoldable pub cut : List Stream → ℤ
cut l = rank (length l / 2) (map (λ s. s.east) l)

unfoldable pub left_list : Stream → List Stream → List Stream
left_list i l = i ∷ those (λ s. lt_z s.east i.east) l

unfoldable pub right_list : Stream → List Stream → List Stream
right_list j l = j ∷ those (λ s. lt_z j.east s.east) l

unfoldable pub first_list : Stream → Stream → List Stream → List Stream
first_list p q xs = p ∷ q ∷ those (λ s. lt_z p.east s.east && lt_z s.east q.east) xs

-- one after the other, if both are there
abbrev pub joined : Option (List Stream) → Option (List Stream) → Option (List Stream)
joined none D = none
joined (some C) none = none
joined (some C) (some D) = some (C ++ D)

-- one side of a step: the outer end alone, if it is reached, or what the step's call on that side gives
abbrev pub reached : Bool → Stream → Option (List Stream) → Option (List Stream)
reached true end C = some (end ∷ [])
reached false end C = C

-- the bridge over a of a list
unfoldable pub cut_bridge : List Stream → Option (Bridge Stream)
cut_bridge l = bridge l (cut l)

-- The chain from the left end p to the right end q of a list with its bridge, by steps at most n deep. None where a step's list has no bridge over
-- its a, which is refusal 18
unfoldable pub steps : ℕ → Stream → Stream → List Stream → Option (Bridge Stream) → Option (List Stream)
steps zero p q l b = none
steps (suc n) p q l none = none
steps (suc n) p q l (some b) =
    joined
    (reached (same p b.left) p (steps n p b.left (left_list b.left l) (cut_bridge (left_list b.left l))))
    (reached (same b.right q) q (steps n b.right q (right_list b.right l) (cut_bridge (right_list b.right l))))

-- the chain of all samples from their two ends: one position makes no step
abbrev pub from_ends : Option Stream → Option Stream → List Stream → Option (List Stream)
from_ends none q xs = some []
from_ends (some p) none xs = some []
from_ends (some p) (some q) xs = cond (same p q) (some (p ∷ [])) (steps (length xs) p q (first_list p q xs) (cut_bridge (first_list p q xs)))

unfoldable pub chain_by_steps : List Stream → Option (List Stream)
chain_by_steps xs = from_ends (left_end xs) (right_end xs) xs
