-- How many corners the ring has that two lists go round: as many as the lists have sides, and one more wherever their ends stand apart, but never fewer than
-- the first list. Assumes nothing.
use Rattle.std.specs.Prelude.{◌≡◌, refl, Bool, true, false, cond, List, [], ◌∷◌, ℕ, suc, ◌+◌, ◌≤◌, max, length}
use Rattle.std.proofs.Common.{ap, ◌∙◌, arith, length-append}
use Rattle.std.proofs.Math.Option.{some}
use Rattle.rules.specs.Streams.{Stream, sample, same}
use Rattle.rules.specs.Ring.{leave_last}
use Rattle.laws_rings.specs.Halves.{around}
use Rattle.laws_halves.specs.Closing.{opened}

-- the sides between two ends: none where they meet, one where they stand apart
abbrev pub gap : Bool → ℕ
gap true = 0
gap false = 1

abbrev pub apart : Stream → Stream → ℕ
apart p q = gap (same p q)

pub at_most_one : (p q : Stream) → apart p q ≤ 1
at_most_one p q = go (same p q)
  where
    go : (b : Bool) → gap b ≤ 1
    go true = omega arith
    go false = omega arith

-- the corner that p ∷ C ends with
abbrev pub end : Stream → List Stream → Stream
end p C = sample (p ∷ C) (length C)

-- the sides of the ring that goes over a ∷ U and back over d ∷ R
abbrev pub sides : Stream → List Stream → Stream → List Stream → ℕ
sides a U d R = length U + length R + apart (end a U) d + apart a (end d R)

-- of a list that is to be left without its last corner if that is a
leave_last_count : (a p : Stream) (X : List Stream) → length (leave_last (some a) (p ∷ X)) ≡ length X + apart a (end p X)
leave_last_count a p [] = go (same a p)
  where
    go : (b : Bool) → length (cond b [] (p ∷ [])) ≡ 0 + gap b
    go true = refl
    go false = refl
leave_last_count a p (q ∷ X) = omega (arith, leave_last_count a q X)

-- THE LAW
pub around-count : (a : Stream) (U : List Stream) (d : Stream) (R : List Stream) → length (around (a ∷ U) (d ∷ R)) ≡ max (suc (length U)) (sides a U d R)
around-count a U d R = go (same (end a U) d) refl R
  where
    counted : (b : Bool) → same (end a U) d ≡ b → (R : List Stream)
        → length (around (a ∷ U) (d ∷ R)) ≡ suc (length U) + length (leave_last (some a) (cond b R (d ∷ R)))
    counted b e R = ap length (opened a U d R b e) ∙ length-append (a ∷ U) (leave_last (some a) (cond b R (d ∷ R)))

    go : (b : Bool) → same (end a U) d ≡ b → (R : List Stream) → length (around (a ∷ U) (d ∷ R)) ≡ max (suc (length U)) (sides a U d R)
    go false e R = omega (arith, counted false e R, ap gap e, leave_last_count a d R)
    go true e [] = omega (arith, counted true e [], ap gap e, at_most_one a d)
    go true e (p ∷ R) = omega (arith, counted true e (p ∷ R), ap gap e, leave_last_count a p R)
