-- A step over its list: its cut is that of the positions, and neither of its two lists exceeds half.
-- Assumes nothing.
use Rattle.std.specs.Prelude.{◌≡◌, Bool, List, map, ℕ, ◌-◌, ◌/◌, ◌≤◌, ℤ, length, take}
use Rattle.std.proofs.Math.Path.{sym}
use Rattle.std.proofs.Common.{ap, ap₂, ◌∙◌, subst₂, arith, length-take-le}
use Rattle.std.proofs.lemmas.Simd.{map-map}
use Rattle.std.proofs.lemmas.List.{length-map}
use Rattle.rules.specs.Streams.{Stream}
use Rattle.rules.specs.Picker.{rank}
use Rattle.rules.specs.Step.{cut}
use Rattle.laws_outline.specs.StepsAtCut.{Ready, ready_two}
use Rattle.samples.specs.Positions.{at}
use Rattle.step.specs.Chaining.{left-half, right_half}
use Rattle.step.specs.Stepping.{number_at, CutSays, SplitAt, StepAsks}

module _ {es ns : List ℤ} {lower : Bool} {w : List ℕ} {t p q : ℕ} (asks : StepAsks es ns lower w t p q) where
  abbrev to : ℕ → Stream
  to = at es ns lower

  abbrev l : List ℕ
  l = take t w

  pub list_long : length (take t w) ≡ t
  list_long = length-take-le t w (omega (arith, asks.asks.room))

  pub ready : Ready (map to l) (to p) (to q)
  ready = asks.asks.chainable.ready asks.far

  pub two : 2 ≤ t
  two = omega (arith, ready_two ready, length-map l to, list_long)

  -- the cut that is said is that of the positions
  pub is_cut : {a : ℤ} {w₁ : List ℕ} → CutSays es w t a w₁ → a ≡ cut (map to l)
  unfolding cut
  is_cut c = c.is ∙ sym (ap₂ rank (ap (λ (n : ℕ). n / 2) (length-map l to ∙ list_long)) (map-map (λ s. s.east) to l))

  -- and the split over it is one of the list
  pub split_list : {a : ℤ} {w₁ : List ℕ} → CutSays es w t a w₁ → {i j left right : ℕ} {w₂ : List ℕ}
      → SplitAt es ns lower (take t w₁) a i j left right w₂ → SplitAt es ns lower l (cut (map to l)) i j left right w₂
  split_list c {i} {j} {left} {right} {w₂} s =
      subst₂ (λ (z : ℤ) (k : List ℕ). SplitAt es ns lower k z i j left right w₂) (is_cut c) c.same-list s

  module _ {i j left right : ℕ} {w₂ : List ℕ} (s : SplitAt es ns lower l (cut (map to l)) i j left right w₂) where
    pub left_few : left ≤ t / 2
    left_few =
        subst₂ (λ (m n : ℕ). m ≤ n / 2) (sym s.halves.left-count) list_long
        (left-half to (number_at es ns lower) asks.asks.chainable asks.far s.found)

    pub right_few : right ≤ t - t / 2
    right_few =
        subst₂ (λ (m n : ℕ). m ≤ n - n / 2) (sym s.halves.right_count) list_long
        (right_half to (number_at es ns lower) asks.asks.chainable asks.far s.found)
