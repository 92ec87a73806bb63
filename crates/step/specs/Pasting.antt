-- Parts of a list, and of a list with words pasted over it.
-- Assumes nothing.
use Rattle.std.specs.Prelude.{◌≡◌, List, ◌++◌, ℕ, ◌+◌, ◌≤◌, length, take, drop}
use Rattle.std.proofs.Common.{sym, ap, ◌∙◌, append_assoc, arith, length-drop, take_at, drop_at, take-add, take-take, length-take-le}
use Rattle.std.proofs.Math.Seq.{paste, take-append_seam, drop-append_seam}

-- ---- a part behind the first items

module _ {A : Type 0} where
  -- it is what is left of the front that reaches to its end
  pub part_of_front : (k n : ℕ) (l : List A) → k ≤ length l → take n (drop k l) ≡ drop k (take (k + n) l)
  part_of_front k n l h = sym (ap (drop k) (take-add k n l) ∙ drop_at (take k l) (take n (drop k l)) k (length-take-le k l h))

  -- so lists with the same front have the same part
  pub same-part : (k n : ℕ) (l m : List A) → k ≤ length l → k ≤ length m → take (k + n) l ≡ take (k + n) m → take n (drop k l) ≡ take n (drop k m)
  same-part k n l m h g e = part_of_front k n l h ∙ ap (drop k) e ∙ sym (part_of_front k n m g)

  -- a list that stands in full has as many items as are taken
  pub part_long : (k n : ℕ) (l m : List A) → k + n ≤ length l → take n (drop k l) ≡ m → n ≡ length m
  part_long k n l m h e = sym (length-take-le n (drop k l) (omega (arith, length-drop k l))) ∙ ap (λ (r : List A). length r) e

  -- two lists side by side
  pub front_first : (l r s : List A) → take (length r + length s) l ≡ r ++ s → take (length r) l ≡ r
  front_first l r s e = sym (take-take (length r) (length r + length s) l (omega arith)) ∙ ap (take (length r)) e ∙ take-append_seam r s

  pub front_second : (l r s : List A) → length r ≤ length l → take (length r + length s) l ≡ r ++ s → take (length s) (drop (length r) l) ≡ s
  front_second l r s h e = part_of_front (length r) (length s) l h ∙ ap (drop (length r)) e ∙ drop-append_seam r s

-- ---- a paste: what lies before it, the part itself, and what lies behind it

module _ {A : Type 0} (w : List A) (to : ℕ) (s : List A) (n : ℕ) (fits : to + n ≤ length w) (enough : n ≤ length s) where
  long_before : length (take to w) ≡ to
  long_before = length-take-le to w (omega arith)

  pub paste_front : take to (paste w to s n) ≡ take to w
  paste_front =
      ap (take to) (append_assoc (take to w) (take n s) (drop (to + n) w))
      ∙ take_at (take to w) (take n s ++ drop (to + n) w) to long_before

  pub paste_from : drop to (paste w to s n) ≡ take n s ++ drop (to + n) w
  paste_from =
      ap (drop to) (append_assoc (take to w) (take n s) (drop (to + n) w))
      ∙ drop_at (take to w) (take n s ++ drop (to + n) w) to long_before

  pub paste_part : take n (drop to (paste w to s n)) ≡ take n s
  paste_part = ap (take n) paste_from ∙ take_at (take n s) (drop (to + n) w) n (length-take-le n s enough)
