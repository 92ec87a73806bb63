-- Halving: the right list and the left list are written behind the list, side by side, and move to the front together.
-- Assumes nothing.
use mathlib.Core.Path.{◌≡◌, sym, ap, ap₂, ◌∙◌, subst}
use mathlib.Core.Bool.{true, false}
use mathlib.Core.List.{List, ◌++◌}
use Prim.Native.Nat.{ℕ, ◌+◌, ◌-◌, ◌≤◌}
use native.Mathlib.Omega.{arith}
use lib.IntN.{ℤ}
use lib.ListN.{length, take, drop, length-drop}
use lib.Seq.{paste, drop-drop, take-add, length-take-le, length-paste}
use Rattle.laws_outline.specs.ListLaws.{those-most}
use Rattle.samples.specs.Positions.{Listed, east_of}
use Rattle.std.specs.List.{copy_within}
use Rattle.step.specs.Pasting.{same-part, part_long, front_first, front_second, paste_part}
use Rattle.step.specs.NumberLists.{past, beyond_numbers, BeyondAsks, Beyond}
use Rattle.step.specs.Stepping.{HalvesAsk, HalvesSay}

module _ {es : List ℤ} {w : List ℕ} {t i j : ℕ} (asks : HalvesAsk es w t i j) where
  -- the right list and the left list
  R : List ℕ
  R = beyond_numbers es false j (take t w)

  L : List ℕ
  L = beyond_numbers es true i (take t w)

  list_long : length (take t w) ≡ t
  list_long = length-take-le t w (omega (arith, asks.room))

  short : length R ≤ t + 1
  unfolding R
  short = omega (arith, those-most (λ y. past false (east_of es j) (east_of es y)) (take t w), list_long)

  module _ {right : ℕ} {w₁ : List ℕ} (long₁ : length w₁ ≡ length w) (b : Beyond (beyond_numbers es false j (take t w)) w t right w₁) where
    right_count : right ≡ length R
    unfolding R
    right_count = part_long t right w₁ R b.inside b.part

    -- the left list can be written behind the right list
    pub left_asks : BeyondAsks es w₁ t (t + right) i
    left_asks =
        record {
          listed = subst (Listed (length es)) (sym b.before) asks.listed;
          behind = omega arith;
          room = omega (arith, asks, right_count, short);
          below = asks.left_below;
        }

    module _ {left : ℕ} {w₂ : List ℕ} (long₂ : length w₂ ≡ length w₁) (c : Beyond (beyond_numbers es true i (take t w₁)) w₁ (t + right) left w₂) where
      left-part : take left (drop (t + right) w₂) ≡ L
      unfolding L
      left-part = c.part ∙ ap (beyond_numbers es true i) b.before

      left-count : left ≡ length L
      left-count = part_long (t + right) left w₂ L c.inside left-part

      side_by_side : take (right + left) (drop t w₂) ≡ R ++ L
      unfolding R
      side_by_side =
          take-add right left (drop t w₂)
          ∙ ap₂ ◌++◌
          (same-part t right w₂ w₁ (omega (arith, asks)) (omega (arith, asks)) c.before ∙ b.part)
          (ap (take left) (drop-drop right t w₂) ∙ left-part)

      pub halved : {w₃ : List ℕ} → w₃ ≡ copy_within w₂ t (t + right + left) 0 → HalvesSay es (take t w) i j left right w₃
      unfolding R L
      halved {w₃} copied =
          record {
            right_is = ap (λ (k : ℕ). take k w₃) right_count ∙ front_first w₃ R L front;
            left_is = ap₂ (λ (k n : ℕ). take k (drop n w₃)) left-count right_count ∙ front_second w₃ R L (omega (arith, fits)) front;
            right_count = right_count;
            left-count = left-count;
          }
        where
          e : w₃ ≡ paste w₂ 0 (drop t w₂) (right + left)
          e = let long : t + right + left - t ≡ right + left = omega arith in copied ∙ ap (paste w₂ 0 (drop t w₂)) long

          source : right + left ≤ length (drop t w₂)
          source = let h = c.inside in omega (arith, length-drop t w₂)

          fits : length R + length L ≤ length w₃
          fits =
              let h = c.inside in
              omega (arith, right_count, left-count, ap (λ (l : List ℕ). length l) e, length-paste w₂ 0 (drop t w₂) (right + left) (omega arith) source)

          front : take (length R + length L) w₃ ≡ R ++ L
          front =
              let h = c.inside in
              ap₂ (λ (k n : ℕ). take (k + n) w₃) (sym right_count) (sym left-count)
              ∙ ap (take (right + left)) e
              ∙ paste_part w₂ 0 (drop t w₂) (right + left) (omega arith) source
              ∙ side_by_side
