-- A list of sample numbers from its left end p to its right end q, of which a chain is made: by a step, if the ends stand at two positions, and the two
-- lists of that step are such lists again. What the rule's steps give over the list is what they give over its left list, then over its right list.
-- Assumes nothing.
use Rattle.std.specs.Prelude.{◌≡◌, ◌≢◌, ℕ, ◌-◌, ◌/◌, ◌≤◌, length}
use Rattle.std.proofs.Common.{sym, ap, ◌∙◌, subst, subst₂, arith}
use mathlib.Core.List.{List, ◌∷◌, ◌++◌, map}
use Rattle.std.specs.Int.Signed.{lt_z}
use Rattle.std.proofs.lemmas.List.{length-map}
use Rattle.rules.specs.Lists.{those}
use Rattle.rules.specs.Streams.{Stream}
use Rattle.rules.specs.Chain.{Of}
use Rattle.rules.specs.Bridge.{ends}
use Rattle.rules.specs.Step.{cut, cut_bridge, left_list, right_list}
use Rattle.laws_outline.specs.Bridges.{BridgeOver, is-bridge}
use Rattle.laws_outline.specs.StepsAtCut.{Ready, ready_two, left_list_ready, right_list_ready}
use Rattle.laws_rounds.specs.Rounds.{Found}
use Rattle.laws_rounds.specs.StepsAtMiddle.{Halved, cut_halves, BySteps, one-step, left-list-map, right_list_map}
use Rattle.step.specs.LowestFirst.{Named, named_those, named_cons, named_first}

-- the numbers of the left list of i, and of the right list of j
abbrev pub left_numbers : (ℕ → Stream) → ℕ → List ℕ → List ℕ
left_numbers at i l = i ∷ those (λ x. lt_z (at x).east (at i).east) l

abbrev pub right_numbers : (ℕ → Stream) → ℕ → List ℕ → List ℕ
right_numbers at j l = j ∷ those (λ x. lt_z (at j).east (at x).east) l

module _ (at : ℕ → Stream) (number : Stream → ℕ) where
  pub record Chainable (l : List ℕ) (p q : ℕ) : Type 0 where
    pub started : 1 ≤ length l
    pub ready : at p ≢ at q → Ready (map at l) (at p) (at q)
    pub named : Named at number l
    pub told : number (at p) ≡ p

  -- ---- the two lists of a step over its cut

  module _ {l : List ℕ} {p q : ℕ} (c : Chainable l p q) (far : at p ≢ at q) {i j : ℕ} (f : Found at (cut (map at l)) l (ends i j)) where
    abbrev positions : List Stream
    positions = map at l

    left-positions : left_list (at i) positions ≡ map at (left_numbers at i l)
    left-positions = left-list-map at i l

    right_positions : right_list (at j) positions ≡ map at (right_numbers at j l)
    right_positions = right_list_map at j l

    over : BridgeOver (Of positions) (cut positions) (at i) (at j)
    over = f.over

    from_ends : Ready positions (at p) (at q)
    from_ends = c.ready far

    pub left_chainable : Chainable (left_numbers at i l) p i
    left_chainable =
        record {
          started = omega arith;
          ready = λ g. subst (λ (xs : List Stream). Ready xs (at p) (at i)) left-positions (left_list_ready from_ends over g);
          named = named_cons at number i (those (λ x. lt_z (at x).east (at i).east) l) (named_first at number l c.named f.first-left)
              (named_those at number (λ s. lt_z s.east (at i).east) l c.named);
          told = c.told;
        }

    pub right_chainable : Chainable (right_numbers at j l) j q
    right_chainable =
        record {
          started = omega arith;
          ready = λ g. subst (λ (xs : List Stream). Ready xs (at j) (at q)) right_positions (right_list_ready from_ends over g);
          named = named_cons at number j (those (λ x. lt_z (at j).east (at x).east) l) (named_first at number l c.named f.first_right)
              (named_those at number (λ s. lt_z (at j).east s.east) l c.named);
          told = named_first at number l c.named f.first_right;
        }

    halves : Halved positions (at i) (at j)
    halves = cut_halves positions (ready_two from_ends) over

    -- the step is the rule's own: its bridge is over the list's cut, and its two lists are the rule's
    pub steps_on : {C D : List Stream} → BySteps (map at (left_numbers at i l)) (at p) (at i) C → BySteps (map at (right_numbers at j l)) (at j) (at q) D
        → BySteps positions (at p) (at q) (C ++ D)
    unfolding cut_bridge
    steps_on {C} {D} left right =
        one-step far (is-bridge positions over) halves
        (subst (λ (xs : List Stream). BySteps xs (at p) (at i) C) (sym left-positions) left)
        (subst (λ (xs : List Stream). BySteps xs (at j) (at q) D) (sym right_positions) right)

    long : (xs : List Stream) (k : List ℕ) → xs ≡ map at k → length xs ≡ length k
    long xs k e = ap (λ (ys : List Stream). length ys) e ∙ length-map k at

    -- neither list exceeds half
    pub left-half : length (left_numbers at i l) ≤ length l / 2
    left-half = subst₂ (λ (m n : ℕ). m ≤ n / 2) (long (left_list (at i) positions) (left_numbers at i l) left-positions) (length-map l at) halves.left-half

    pub right_half : length (right_numbers at j l) ≤ length l - length l / 2
    right_half = subst₂ (λ (m n : ℕ). m ≤ n - n / 2) (long (right_list (at j) positions) (right_numbers at j l) right_positions) (length-map l at) halves.right_half
