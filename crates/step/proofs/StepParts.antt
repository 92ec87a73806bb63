-- A step, part after part: its cut, its split, the chain of its left list, the chain of its right list, and both side by side at the front.
-- Assumes nothing.
use mathlib.Core.Path.{◌≡◌, sym, ap, ap₂, ◌∙◌, subst}
use mathlib.Core.Logic.{⊎_elim}
use mathlib.Core.Bool.{Bool, false, ◌&&◌}
use mathlib.Core.List.Memᴰ
use mathlib.Core.List.{List, [], ◌∷◌, ◌++◌, map, map-append, Memᴰ}
use Prim.Native.Nat.{ℕ, ◌+◌, ◌-◌, ◌*◌, ◌≤◌, ◌<◌}
use native.Mathlib.Nat.{le_refl}
use native.Mathlib.Omega.{arith}
use borrow.Rule.Slice.PartMut.{mid_of, put_mid, mid_len, same_len_mid, take_put}
use lib.IntN.{ℤ}
use lib.Signed.{◌≤ℤ◌, ◌<ℤ◌, le_z, lt_z, <ℤ-≤ℤ_trans}
use lib.ListN.{length, take, drop, set, length-take, length-drop}
use lib.Seq.{paste, length-paste, length-take-le, take-suc-set, take-take, take-add, take-append-le, drop_at, drop-drop}
use Rattle.whole.specs.Laws.{≤ℤ_trans, le_test, lt_test}
use Rattle.rules.specs.Lists.{those}
use Rattle.rules.specs.Streams.{Stream}
use Rattle.rules.specs.Chain.{Of}
use Rattle.rules.specs.Step.{cut}
use Rattle.laws_outline.specs.ListLaws.{those_in, yes_both, not-both}
use Rattle.laws_outline.specs.Bridges.{BothSides, spans-is}
use Rattle.laws_rounds.specs.Rounds.{found_in}
use Rattle.laws_rounds.specs.StepsAtMiddle.{ready_spans, BySteps, no_step}
use Rattle.samples.specs.Positions.{at, east_of, Sampled, Listed}
use Rattle.std.specs.List.{copy_within}
use Rattle.step.specs.Pasting.{same-part, paste_front, paste_part}
use Rattle.step.specs.Chaining.{Chainable, left_numbers, right_numbers, left_chainable, right_chainable, steps_on}
use Rattle.step.specs.Stepping.{number_at, CutAsks, CutSays, SplitAsks, SplitAt, ChainAsks, StepAsks, ChainIs}
use Rattle.step.proofs.SignedWords.{word}
use Rattle.step.specs.StepCut.{list_long, ready, two, is_cut, split_list, left_few, right_few}

-- ---- parts that come back

-- what a lent part was left with at its front, seen in the whole
put-part : {A : Type 0} (a k n : ℕ) (xs ys : List A) → a ≤ length xs → n ≤ length ys → take n (drop a (put_mid a k xs ys)) ≡ take n ys
put-part a k n xs ys h g =
    ap (take n) (drop_at (take a xs) (ys ++ drop k (drop a xs)) a (length-take-le a xs h)) ∙ take-append-le n ys (drop k (drop a xs)) g

-- the front of a part that is lent to the end
part_front : {A : Type 0} (a n : ℕ) (xs : List A) → a + n ≤ length xs → take n (mid_of a (length xs - a) xs) ≡ take n (drop a xs)
part_front a n xs h = take-take n (length xs - a) (drop a xs) (omega arith)

-- a list of samples, of which some are left after a sample
listed-beyond : {count x : ℕ} (f : ℕ → Bool) {l : List ℕ} → x < count → Listed count l → Listed count (x ∷ those f l)
listed-beyond {count} f {l} b h =
    record { below = λ y m. ⊎_elim (λ e. subst (λ (z : ℕ). z < count) (sym e) b) (λ n. h.below y (those_in f l n).0) (Memᴰ.cases_cons m) }

-- ---- ends at one position

module _ {es ns : List ℤ} {lower : Bool} {w : List ℕ} {t p q : ℕ} (asks : ChainAsks es ns lower w t p q) where
  pub some_room : 0 < length w
  some_room = omega (arith, asks.room, asks.chainable.started, length-take t w)

  pub alone_is : at es ns lower p ≡ at es ns lower q → ChainIs (at es ns lower) (number_at es ns lower) (take t w) p q 1 (set w 0 p)
  alone_is e =
      record {
        chain = at es ns lower p ∷ [];
        by_steps = no_step e;
        corners = take-suc-set w 0 p some_room ∙ sym (ap (λ (x : ℕ). x ∷ []) asks.chainable.told);
        few = asks.chainable.started;
      }

-- ---- a step, as it stands after each of its parts

-- the list is split: the right list stands at the front, and the left list behind it
pub record Parts (es ns : List ℤ) (lower : Bool) (w : List ℕ) (t p q i j left right : ℕ) (w₂ : List ℕ) : Type 0 where
  pub asks : StepAsks es ns lower w t p q
  pub split : SplitAt es ns lower (take t w) (cut (map (at es ns lower) (take t w))) i j left right w₂
  pub long : length w₂ ≡ length w

-- in the place of the left list stands its chain C, u corners
pub record LeftMade (es ns : List ℤ) (lower : Bool) (w : List ℕ) (t p i j left right u : ℕ) (C : List Stream) (w₃ : List ℕ) : Type 0 where
  pub left-steps : BySteps (map (at es ns lower) (left_numbers (at es ns lower) i (take t w))) (at es ns lower p) (at es ns lower i) C
  pub left-corners : take u (drop right w₃) ≡ map (number_at es ns lower) C
  pub right_list : take right w₃ ≡ right_numbers (at es ns lower) j (take t w)
  pub few : u ≤ left
  pub long : length w₃ ≡ length w

-- the right list stands behind it
pub record Copied (es ns : List ℤ) (lower : Bool) (w : List ℕ) (t p i j left right u : ℕ) (C : List Stream) (w₄ : List ℕ) : Type 0 where
  pub left-steps : BySteps (map (at es ns lower) (left_numbers (at es ns lower) i (take t w))) (at es ns lower p) (at es ns lower i) C
  pub left-corners : take u (drop right w₄) ≡ map (number_at es ns lower) C
  pub right_list : take right (drop (right + u) w₄) ≡ right_numbers (at es ns lower) j (take t w)
  pub few : u ≤ left
  pub long : length w₄ ≡ length w

-- in its place stands its chain, v corners: both chains are that of the list
pub record BothMade (es ns : List ℤ) (lower : Bool) (w : List ℕ) (t p q right u v : ℕ) (w₅ : List ℕ) : Type 0 where
  pub chain : List Stream
  pub by_steps : BySteps (map (at es ns lower) (take t w)) (at es ns lower p) (at es ns lower q) chain
  pub corners : take (u + v) (drop right w₅) ≡ map (number_at es ns lower) chain
  pub few : u + v ≤ t
  pub inside : right + (u + v) ≤ length w
  pub long : length w₅ ≡ length w

module _ {es ns : List ℤ} {lower : Bool} {w : List ℕ} {t p q : ℕ} (asks : StepAsks es ns lower w t p q) where
  abbrev to : ℕ → Stream
  to = at es ns lower

  abbrev number : Stream → ℕ
  number = number_at es ns lower

  abbrev l : List ℕ
  l = take t w

  pub cut_asks : Sampled es ns → CutAsks es w t
  cut_asks sampled = record { near = sampled.east_near; listed = asks.asks.listed; two = two asks; room = omega (arith, asks.asks.room) }

  -- ---- after the cut

  module _ {a : ℤ} {w₁ : List ℕ} (c : CutSays es w t a w₁) (long₁ : length w₁ ≡ length w) where
    pub split_asks : SplitAsks es ns lower w₁ t p q
    split_asks =
        record {
          listed = subst (Listed (length es)) (sym c.same-list) asks.asks.listed;
          left_below = asks.asks.left_below;
          right_below = asks.asks.right_below;
          left_given = subst (λ (k : List ℕ). Memᴰ (to p) (map to k)) (sym c.same-list) (ready asks).left.given;
          right_given = subst (λ (k : List ℕ). Memᴰ (to q) (map to k)) (sym c.same-list) (ready asks).right.given;
          two = two asks;
          room = omega (arith, asks.asks.room, long₁);
        }

    -- the cut lies from p's east to below q's, so there is a bridge over it
    pub over-cut : word a ≡ a → (le_z (east_of es p) (word a) && lt_z (word a) (east_of es q)) ≡ false → ⊥
    over-cut k e = not-both (yes_both (le_test from) (lt_test below)) (subst (λ (z : ℤ). (le_z (east_of es p) z && lt_z z (east_of es q)) ≡ false) k e)
      where
        sides : BothSides (Of (map to l)) a
        sides = subst (BothSides (Of (map to l))) (sym (is_cut asks c)) (spans-is (cut (map to l)) (map to l) (ready_spans (ready asks)))

        from : east_of es p ≤ℤ a
        from = ≤ℤ_trans ((ready asks).left.least sides.west sides.west_given) sides.at_most

        below : a <ℤ east_of es q
        below = <ℤ-≤ℤ_trans sides.above ((ready asks).right.most sides.east sides.east_given)

    -- ---- after the split

    pub parts : {i j left right : ℕ} {w₂ : List ℕ} → word a ≡ a → SplitAt es ns lower (take t w₁) (word a) i j left right w₂ → length w₂ ≡ length w₁
        → Parts es ns lower w t p q i j left right w₂
    parts {i} {j} {left} {right} {w₂} k s long₂ =
        record {
          asks = asks;
          split = split_list asks c (subst (λ (z : ℤ). SplitAt es ns lower (take t w₁) z i j left right w₂) k s);
          long = long₂ ∙ long₁;
        }

module _ {es ns : List ℤ} {lower : Bool} {w : List ℕ} {t p q i j left right : ℕ} {w₂ : List ℕ} (s : Parts es ns lower w t p q i j left right w₂) where
  abbrev face : ℕ → Stream
  face = at es ns lower

  abbrev numbering : Stream → ℕ
  numbering = number_at es ns lower

  abbrev all : List ℕ
  all = take t w

  pub left_less : left < t
  left_less = omega (arith, left_few s.asks s.split, two s.asks)

  pub right_less : right < t
  right_less = omega (arith, right_few s.asks s.split, two s.asks)

  -- there is room for both chains and both lists
  pub spare : 5 * right + left ≤ length w
  spare = omega (arith, left_few s.asks s.split, right_few s.asks s.split, two s.asks, s.asks.asks.room)

  pub right_fits : right ≤ length w₂
  right_fits = omega (arith, spare, s.long)

  pub left_asks : ChainAsks es ns lower (mid_of right (length w₂ - right) w₂) left p i
  left_asks =
      record {
        listed = subst (Listed (length es)) (sym is) (listed-beyond (λ x. lt_z (face x).east (face i).east) below s.asks.asks.listed);
        left_below = s.asks.asks.left_below;
        right_below = below;
        chainable = subst (λ (k : List ℕ). Chainable face numbering k p i) (sym is) (left_chainable face numbering s.asks.asks.chainable s.asks.far s.split.found);
        room = omega (arith, left_few s.asks s.split, right_few s.asks s.split, s.asks.asks.room, s.long, mid_len right (length w₂) w₂ (le_refl (length w₂)));
      }
    where
      is : take left (mid_of right (length w₂ - right) w₂) ≡ left_numbers face i all
      is = part_front right left w₂ (omega (arith, spare, s.long)) ∙ s.split.halves.left_is

      below : i < length es
      below = s.asks.asks.listed.below i (found_in face (cut (map face all)) s.split.found).0

  -- ---- after the chain of the left list

  pub left_made : {u : ℕ} {ys : List ℕ} (c : ChainIs face numbering (take left (mid_of right (length w₂ - right) w₂)) p i u ys)
      → length ys ≡ length (mid_of right (length w₂ - right) w₂)
      → LeftMade es ns lower w t p i j left right u c.chain (put_mid right (length w₂ - right) w₂ ys)
  left_made {u} {ys} c long-ys =
      record {
        left-steps = subst (λ (k : List ℕ). BySteps (map face k) (face p) (face i) c.chain) is c.by_steps;
        left-corners = put-part right (length w₂ - right) u w₂ ys right_fits (omega (arith, spare, s.long, few, part_long)) ∙ c.corners;
        right_list = take_put right (length w₂ - right) w₂ ys right_fits ∙ s.split.halves.right_is;
        few = few;
        long = same_len_mid right (length w₂ - right) w₂ ys long-ys ∙ s.long;
      }
    where
      is : take left (mid_of right (length w₂ - right) w₂) ≡ left_numbers face i all
      is = part_front right left w₂ (omega (arith, spare, s.long)) ∙ s.split.halves.left_is

      few : u ≤ left
      few = omega (arith, c.few, ap (λ (k : List ℕ). length k) is, s.split.halves.left-count)

      part_long : length ys ≡ length w₂ - right
      part_long = long-ys ∙ mid_len right (length w₂) w₂ (le_refl (length w₂))

  -- the right list can be copied behind it
  module _ {u : ℕ} {C : List Stream} {w₃ : List ℕ} (m : LeftMade es ns lower w t p i j left right u C w₃) where
    pub behind_fits : right + u + right ≤ length w₃
    behind_fits = omega (arith, spare, m.long, m.few)

    enough : right ≤ length w₃
    enough = omega (arith, spare, m.long)

    pub right_copied : {w₄ : List ℕ} → w₄ ≡ copy_within w₃ 0 right (right + u) → Copied es ns lower w t p i j left right u C w₄
    right_copied {w₄} copied =
        record {
          left-steps = m.left-steps;
          left-corners =
              same-part right u w₄ w₃ (omega (arith, enough, long)) enough (
              ap (take (right + u)) e ∙ paste_front w₃ (right + u) w₃ right behind_fits enough
              )
              ∙ m.left-corners;
          right_list =
              ap (λ (k : List ℕ). take right (drop (right + u) k)) e
              ∙ paste_part w₃ (right + u) w₃ right behind_fits enough
              ∙ m.right_list;
          few = m.few;
          long = long ∙ m.long;
        }
      where
        e : w₄ ≡ paste w₃ (right + u) w₃ right
        e = let all : right - 0 ≡ right = omega arith in copied ∙ ap (paste w₃ (right + u) w₃) all

        long : length w₄ ≡ length w₃
        long = ap (λ (k : List ℕ). length k) e ∙ length-paste w₃ (right + u) w₃ right behind_fits enough

  -- ---- the right list behind the left list's chain

  module _ {u : ℕ} {C : List Stream} {w₄ : List ℕ} (m : Copied es ns lower w t p i j left right u C w₄) where
    pub right_starts : right + u ≤ length w₄
    right_starts = omega (arith, spare, m.long, m.few)

    right_is : take right (mid_of (right + u) (length w₄ - (right + u)) w₄) ≡ right_numbers face j all
    right_is = part_front (right + u) right w₄ (omega (arith, spare, m.long, m.few)) ∙ m.right_list

    pub right_asks : ChainAsks es ns lower (mid_of (right + u) (length w₄ - (right + u)) w₄) right j q
    right_asks =
        record {
          listed = subst (Listed (length es)) (sym right_is) (listed-beyond (λ x. lt_z (face j).east (face x).east) below s.asks.asks.listed);
          left_below = below;
          right_below = s.asks.asks.right_below;
          chainable = subst (λ (k : List ℕ). Chainable face numbering k j q) (sym right_is)
              (right_chainable face numbering s.asks.asks.chainable s.asks.far s.split.found);
          room = omega (arith, spare, m.long, m.few, mid_len (right + u) (length w₄) w₄ (le_refl (length w₄)));
        }
      where
        below : j < length es
        below = s.asks.asks.listed.below j (found_in face (cut (map face all)) s.split.found).1

    pub both_made : {v : ℕ} {zs : List ℕ} → ChainIs face numbering (take right (mid_of (right + u) (length w₄ - (right + u)) w₄)) j q v zs
        → length zs ≡ length (mid_of (right + u) (length w₄ - (right + u)) w₄)
        → BothMade es ns lower w t p q right u v (put_mid (right + u) (length w₄ - (right + u)) w₄ zs)
    both_made {v} {zs} c long-zs =
        record {
          chain = C ++ c.chain;
          by_steps = steps_on face numbering s.asks.asks.chainable s.asks.far s.split.found m.left-steps
              (subst (λ (k : List ℕ). BySteps (map face k) (face j) (face q) c.chain) right_is c.by_steps);
          corners =
              take-add u v (drop right w₅)
              ∙ ap₂ ◌++◌
              (same-part right u w₅ w₄ (omega (arith, right_starts, long)) (omega (arith, right_starts))
              (take_put (right + u) (length w₄ - (right + u)) w₄ zs right_starts)
              ∙ m.left-corners)
              (ap (take v) (drop-drop u right w₅)
              ∙ put-part (right + u) (length w₄ - (right + u)) v w₄ zs right_starts (omega (arith, spare, m.long, m.few, few, part_long))
              ∙ c.corners)
              ∙ sym (map-append numbering C c.chain);
          few = omega (arith, m.few, few, left_few s.asks s.split, right_few s.asks s.split);
          inside = omega (arith, spare, m.few, few);
          long = long ∙ m.long;
        }
      where
        w₅ : List ℕ
        w₅ = put_mid (right + u) (length w₄ - (right + u)) w₄ zs

        few : v ≤ right
        few = omega (arith, c.few, ap (λ (k : List ℕ). length k) right_is, s.split.halves.right_count)

        part_long : length zs ≡ length w₄ - (right + u)
        part_long = long-zs ∙ mid_len (right + u) (length w₄) w₄ (le_refl (length w₄))

        long : length w₅ ≡ length w₄
        long = same_len_mid (right + u) (length w₄ - (right + u)) w₄ zs long-zs

  -- ---- both chains side by side, and at the front

  module _ {u v : ℕ} {w₅ : List ℕ} (m : BothMade es ns lower w t p q right u v w₅) where
    pub front_fits : right + u + v ≤ length w₅
    front_fits = omega (arith, m.inside, m.long)

    pub chain-is : {w₆ : List ℕ} → w₆ ≡ copy_within w₅ right (right + u + v) 0 → ChainIs face numbering all p q (u + v) w₆
    chain-is {w₆} copied =
        record {
          chain = m.chain;
          by_steps = m.by_steps;
          corners =
              ap (take (u + v)) e
              ∙ paste_part w₅ 0 (drop right w₅) (u + v) (omega (arith, front_fits)) (omega (arith, front_fits, length-drop right w₅))
              ∙ m.corners;
          few = omega (arith, m.few, list_long s.asks);
        }
      where
        e : w₆ ≡ paste w₅ 0 (drop right w₅) (u + v)
        e = let all : right + u + v - right ≡ u + v = omega arith in copied ∙ ap (paste w₅ 0 (drop right w₅)) all
