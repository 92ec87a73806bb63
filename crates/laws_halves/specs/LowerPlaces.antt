-- The lower chain of an envelope by places: it stands on the half that goes back, from its end to its start. Assumes nothing.
use Rattle.std.specs.Prelude.{◌≡◌, true, ℕ, suc, ◌+◌, ◌-◌, ◌≤◌, ◌<◌, pos, length, get_or}
use Rattle.std.proofs.Common.{sym, ap, ◌∙◌, arith}
use mathlib.Core.List.{List, [], ◌∷◌, ◌++◌, reverse, reverse-cons, reverse-reverse}
use Rattle.std.proofs.Math.Decide.{dec_lt}
use Rattle.std.proofs.lemmas.List.{length-reverse}
use Rattle.std.proofs.Math.ListN.{get_or-append}
use Rattle.std.proofs.Math.Seq.{get_or-append_seam}
use Rattle.rules.specs.Streams.{Stream, stream, sample}
use Rattle.rules.specs.Chain.{lower}
use Rattle.laws_rings.specs.Halves.{half, back-half}
use Rattle.laws_halves.specs.Scanned.{corner, HalfAt}

-- a list turned round, by places
at-reverse : {A : Type 0} (xs : List A) (d : A) (i : ℕ) → i < length xs → get_or (reverse xs) i d ≡ get_or xs (length xs - suc i) d
at-reverse [] d i h = absurd (omega arith)
at-reverse {A} (x ∷ xs) d i h = ap (λ (l : List A). get_or l i d) (reverse-cons x xs) ∙ go (λ l. at-reverse xs d i l) (dec_lt i (length xs))
  where
    count : length (reverse xs) ≡ length xs
    count = length-reverse xs

    go : (i < length xs → get_or (reverse xs) i d ≡ get_or xs (length xs - suc i) d) → Dec (i < length xs)
        → get_or (reverse xs ++ (x ∷ [])) i d ≡ get_or (x ∷ xs) (suc (length xs) - suc i) d
    go later (yes l) =
        let e : suc (length xs - suc i) ≡ suc (length xs) - suc i = omega arith in
        get_or-append (reverse xs) (x ∷ []) d i (omega (arith, count)) ∙ later l ∙ ap (λ (k : ℕ). get_or (x ∷ xs) k d) e
    go later (no l) =
        let e : i ≡ length (reverse xs) = omega (arith, count) in
        let z : 0 ≡ suc (length xs) - suc i = omega arith in
        ap (λ (k : ℕ). get_or (reverse xs ++ (x ∷ [])) k d) e ∙ get_or-append_seam (reverse xs) x [] d ∙ ap (λ (k : ℕ). get_or (x ∷ xs) k d) z

module _ {r : List Stream} {from n : ℕ} (h : HalfAt true r from n) where
  lower-half : lower r ≡ reverse (half true r)
  lower-half = sym (reverse-reverse (lower r)) ∙ ap reverse (sym (back-half r))

  pub lower-count : length (lower r) ≡ suc n
  lower-count = ap length lower-half ∙ length-reverse (half true r) ∙ h.count

  pub lower-place : (i : ℕ) → i ≤ n → sample (lower r) i ≡ corner r (from + n - i)
  lower-place i l =
      let e : length (half true r) - suc i ≡ n - i = omega (arith, h.count) in
      let p : from + (n - i) ≡ from + n - i = omega arith in
      ap (λ (C : List Stream). sample C i) lower-half ∙ at-reverse (half true r) (stream (pos 0) (pos 0)) i (omega (arith, h.count))
      ∙ ap (sample (half true r)) e ∙ h.at (n - i) (omega arith) ∙ ap (corner r) p
