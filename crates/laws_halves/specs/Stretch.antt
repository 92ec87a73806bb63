-- A stretch of a ring: its corners from a place on over so many sides, place 0 again after the last. A half is one.
-- Assumes nothing.
use Rattle.std.specs.Prelude.{◌≡◌, refl, Bool, List, [], ◌∷◌, ℕ, zero, suc, ◌+◌, ◌≤◌, pos, length}
use Rattle.std.proofs.Common.{sym, ap, ◌∙◌, arith, ext_get_or}
use Rattle.rules.specs.Streams.{Stream, stream, sample}
use Rattle.laws_rings.specs.Halves.{half}
use Rattle.laws_halves.specs.Scanned.{corner, HalfAt}

abbrev pub stretch : List Stream → ℕ → ℕ → List Stream
stretch r from zero = corner r from ∷ []
stretch r from (suc n) = corner r from ∷ stretch r (suc from) n

pub stretch-count : (r : List Stream) (from n : ℕ) → length (stretch r from n) ≡ suc n
stretch-count r from zero = refl
stretch-count r from (suc n) = ap suc (stretch-count r (suc from) n)

pub stretch-at : (r : List Stream) (from n i : ℕ) → i ≤ n → sample (stretch r from n) i ≡ corner r (from + i)
stretch-at r from zero zero h = ap (corner r) (omega arith)
stretch-at r from zero (suc i) h = absurd (omega arith)
stretch-at r from (suc n) zero h = ap (corner r) (omega arith)
stretch-at r from (suc n) (suc i) h = let e : suc from + i ≡ from + suc i = omega arith in stretch-at r (suc from) n i (omega arith) ∙ ap (corner r) e

pub half-stretch : {back : Bool} {r : List Stream} {from n : ℕ} → HalfAt back r from n → half back r ≡ stretch r from n
half-stretch {back} {r} {from} {n} h =
    ext_get_or (stream (pos 0) (pos 0)) (half back r) (stretch r from n) (h.count ∙ sym (stretch-count r from n))
    (λ i l. let k : i ≤ n = omega (arith, h.count) in h.at i k ∙ sym (stretch-at r from n i k))
