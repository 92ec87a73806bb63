-- Two items of a list at a time.
-- Assumes nothing.
use Rattle.std.specs.Prelude.{◌≡◌, ℕ, suc, ◌+◌, ◌<◌, List, ◌∷◌, length, get_or, drop}
use mathlib.Core.Path.{sym, ap, ◌∙◌}
use native.Mathlib.Numerals.{add-one}
use native.Mathlib.Omega.{arith}
use lib.Seq.{drop-cons}

pub drop-two : (l : List ℕ) (i : ℕ) → i + 1 < length l → drop i l ≡ get_or l i 0 ∷ get_or l (i + 1) 0 ∷ drop (i + 2) l
drop-two l i h =
    drop-cons l i 0 (omega arith)
    ∙ ap (λ (k : ℕ). get_or l i 0 ∷ drop k l) (sym (add-one i))
    ∙ ap (λ (m : List ℕ). get_or l i 0 ∷ m) (drop-cons l (i + 1) 0 h)
    ∙ ap (λ (k : ℕ). get_or l i 0 ∷ get_or l (i + 1) 0 ∷ drop k l) two
  where
    two : suc (i + 1) ≡ i + 2
    two = omega arith
