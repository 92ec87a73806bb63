-- The words of slopes: the bounds from which the sums and products of the code fit, and a test added as 0 or 1.
-- Assumes nothing.
use mathlib.Core.Path.{sym, subst₂}
use mathlib.Core.Bool.{Bool}
use mathlib.Core.List.{[], ◌∷◌}
use Prim.Native.Nat.{ℕ}
use lib.IntN.{pos}
use mir.Syntax.{w32}
use mir.Val.{bool_byte}
use Rattle.whole.specs.Fits.{Leaves, Bounded, []ʷ, ◌∷ʷ◌, ◌∷ᶜ◌, read, read-within}
use Rattle.rules.specs.Round.{Slope}
use Rattle.laws_ranks.specs.Counts.{bit}
use Rattle.laws_ranks.specs.Kept.{byte_is}
use Rattle.slopes.specs.Fractions.{Part, Near}

-- the two words of a slope
pub part_leaves : {a b : ℕ} → Part a b → Bounded (pos a ∷ pos b ∷ []) (4000000 ∷ 2000000 ∷ [])
part_leaves h = record { within = h.rise-high } ∷ʷ record { within = h.run-high } ∷ʷ []ʷ

-- the factors of a cross product of j and k
pub cross_leaves : {j k : Slope} → Near j → Near k → Leaves (read w32 j.rise ∷ read w32 k.run ∷ []) (j.rise ∷ k.run ∷ []) (2000000 ∷ 2000000 ∷ [])
cross_leaves hj hk = read-within w32 hj.rise_near tt ∷ᶜ read-within w32 hk.run_near tt ∷ᶜ []ʷ

-- two tests cast to numbers
pub as_bytes : (F : ℕ → ℕ → Type 0) (s t : Bool) → F (bit s) (bit t) → F (bool_byte s) (bool_byte t)
as_bytes F s t = subst₂ F (sym (byte_is s)) (sym (byte_is t))
