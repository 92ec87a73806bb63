-- "The upper chain's edge with left east at most a and right east above a, where a is any 32-bit signed number. .. Refused with 6 exactly if no sample
-- has east at most a, or none has east above a. .. Ends are reported by lowest number at their position."
-- Assumes nothing.
use Rattle.std.specs.Prelude.{Bool, cond, ◌&&◌, List, [], ◌∷◌, ℕ, ℤ}
use Rattle.std.proofs.Math.Option.{Option, none, some}
use Rattle.std.specs.Int.Signed.{le_z, lt_z}
use Rattle.rules.specs.Lists.{some_of}
use Rattle.rules.specs.Streams.{Stream}
use Rattle.rules.specs.Chain.{upper, lowest}

-- the two ends of a bridge, as positions or as sample numbers
pub record Bridge (A : Type 0) : Type 0 where
  pub left : A
  pub right : A

abbrev pub ends : {A : Type 0} → A → A → Bridge A
ends p q = record { left = p; right = q }

-- the first edge of a chain with left east at most a and right east above a
unfoldable pub edge_over : ℤ → List Stream → Option (Bridge Stream)
edge_over a [] = none
edge_over a (p ∷ []) = none
edge_over a (p ∷ q ∷ C) = cond (le_z p.east a && lt_z a q.east) (some (ends p q)) (edge_over a (q ∷ C))

unfoldable pub bridge : List Stream → ℤ → Option (Bridge Stream)
bridge xs a = edge_over a (upper xs)

-- some sample has east at most a, and some has east above a: 6 is given exactly if not
unfoldable pub spans : ℤ → List Stream → Bool
spans a xs = some_of (λ s. le_z s.east a) xs && some_of (λ s. lt_z a s.east) xs

unfoldable pub reported : List Stream → Bridge Stream → Bridge ℕ
reported xs b = ends (lowest xs b.left) (lowest xs b.right)
