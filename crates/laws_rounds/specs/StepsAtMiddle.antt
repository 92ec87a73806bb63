-- The chain step with its cut, the rank floor(t/2) of the easts: a list that is ready for a step, from its left end to its right end with no other
-- sample at the right end's east, has a bridge over its cut; its two lists are ready where their outer end is not reached, neither exceeds half, and
-- both are shorter. So the chain by steps is the chain, and refusal 18 is never given.
-- Assumes nothing.
use Rattle.std.specs.Prelude.{◌≡◌, refl, ◌≢◌, Bool, true, false, ◌||◌, ◌&&◌, ℕ, zero, suc, ◌-◌, ◌/◌, ◌≤◌, ◌<◌, ℤ, length}
use Rattle.std.proofs.Common.{sym, ap₂, ◌∙◌, subst, le_refl, arith}
use Rattle.std.proofs.Math.Path.{ap}
use Rattle.std.proofs.Math.Option.{Option, some, some-injective}
use mathlib.Core.List.{List, [], ◌∷◌, ◌++◌, map}
use Rattle.std.specs.Int.Signed.{le_z, lt_z}
use Rattle.rules.specs.Lists.{consIf, those}
use Rattle.rules.specs.Streams.{Stream, same, mirrored}
use Rattle.rules.specs.Picker.{rank}
use Rattle.rules.specs.Chain.{Of, LeftEnd, RightEnd, upper}
use Rattle.rules.specs.Bridge.{Bridge, ends, spans}
use Rattle.rules.specs.Step.{cut, left_list, right_list, first_list, joined, reached, cut_bridge, steps, chain_by_steps}
use Rattle.rules.specs.Entries.{is_none, step_without_bridge}
use Rattle.laws_ranks.specs.Counts.{count, count_same, length-those}
use Rattle.laws_ranks.specs.Ranks.{under, over}
use Rattle.laws_ranks.specs.Numbers.{whole_under, rank_halves}
use Rattle.laws_outline.specs.SamePosition.{same_equal, equal_same, no_same, position_decides}
use Rattle.laws_outline.specs.Bridges.{BridgeOver, is-spans}
use Rattle.laws_outline.specs.StepLists.{step-chain, one-corner, left_list_shorter, right_list_shorter, first-list-chain}
use Rattle.laws_outline.specs.StepsAtCut.{Middle, Ready, ready_two, left_list_ready, right_list_ready, first_list_ready, cut_bridge_some, cut-bridge-is, steps-chain, chain_by_steps_is, left-list-half, right_list_half}

-- ---- the rank floor(t/2) of t numbers is a middle of them

middle-rank : (es : List ℤ) → 2 ≤ length es → Middle es (rank (length es / 2) es)
middle-rank es h =
    let a = rank (length es / 2) es in
    let m = rank_halves es h in
    record {
      given = m.isIn;
      below = subst (λ (n : ℕ). n < length es / 2) (sym (counted (λ e. lt_z e a) (under le_z a) (λ e. whole_under a e))) m.below;
      above = subst (λ (n : ℕ). n ≤ length es - length es / 2) (sym (counted (λ e. lt_z a e) (over le_z a) (λ e. whole_under e a))) m.above;
    }
  where
    counted : (f g : ℤ → Bool) → ((e : ℤ) → f e ≡ g e) → length (those f es) ≡ count g es
    counted f g same = length-those f es ∙ count_same f g es (λ e n. same e)

-- ---- halving

-- "neither list exceeds ceil(t/2)", and both are shorter
pub record Halved (l : List Stream) (i j : Stream) : Type 0 where
  pub left-half : length (left_list i l) ≤ length l / 2
  pub right_half : length (right_list j l) ≤ length l - length l / 2
  pub left_shorter : length (left_list i l) < length l
  pub right_shorter : length (right_list j l) < length l

pub cut_halves : (l : List Stream) {i j : Stream} → 2 ≤ length l → BridgeOver (Of l) (cut l) i j → Halved l i j
cut_halves l two b =
    record {
      left-half = left-list-half middle-rank l two b;
      right_half = right_list_half middle-rank l two b;
      left_shorter = left_list_shorter l b;
      right_shorter = right_list_shorter l b;
    }

-- ---- a step over a list that is ready for it, from p to q

pub record Step (l : List Stream) (p q : Stream) : Type 0 where
  pub found : Bridge Stream
  pub is_found : cut_bridge l ≡ some found
  pub over : BridgeOver (Of l) (cut l) found.left found.right
  pub halves : Halved l found.left found.right
  pub left_ready : p ≢ found.left → Ready (left_list found.left l) p found.left
  pub right_ready : found.right ≢ q → Ready (right_list found.right l) found.right q
  pub chain : upper l ≡ upper (left_list found.left l) ++ upper (right_list found.right l)

pub ready_step : {l : List Stream} {p q : Stream} → Ready l p q → Step l p q
ready_step {l} r =
    let b = cut_bridge_some middle-rank r in
    let over = cut-bridge-is middle-rank l b.1 in
    record {
      found = b.0;
      is_found = b.1;
      over = over;
      halves = cut_halves l (ready_two r) over;
      left_ready = left_list_ready r over;
      right_ready = right_list_ready r over;
      chain = step-chain l over;
    }

pub ready_spans : {l : List Stream} {p q : Stream} → Ready l p q → spans (cut l) l ≡ true
ready_spans {l} r =
    let s = ready_step r in
    let b = s.over in
    is-spans
    (cut l)
    l
    (record {
      west = s.found.left;
      east = s.found.right;
      west_given = b.from;
      east_given = b.to;
      at_most = b.left;
      above = b.right;
    })

-- ---- the chain by steps

-- The rule's own steps over a list from p to q give C, however deep they may go: "ends at one position make no step", else the step calls itself
pub record BySteps (l : List Stream) (p q : Stream) (C : List Stream) : Type 0 where
  pub given : (n : ℕ) → length l ≤ n → reached (same p q) p (steps n p q l (cut_bridge l)) ≡ some C

pub no_step : {l : List Stream} {p q : Stream} → p ≡ q → BySteps l p q (p ∷ [])
no_step {l} {p} {q} e =
    record { given = λ n h. ap (λ (b : Bool). reached b p (steps n p q l (cut_bridge l))) (equal_same e) }

-- one step, over what its two calls give
pub one-step : {l : List Stream} {p q i j : Stream} {C D : List Stream} → p ≢ q → cut_bridge l ≡ some (ends i j) → Halved l i j
    → BySteps (left_list i l) p i C → BySteps (right_list j l) j q D → BySteps l p q (C ++ D)
unfolding steps
one-step {l} {p} {q} {i} {j} {C} {D} far e halves left right = record { given = given }
  where
    -- where the right list's outer end is reached, it is the one that the list starts with
    end : (n : ℕ) (b : Bool) → same j q ≡ b
        → reached b q (steps n j q (right_list j l) (cut_bridge (right_list j l))) ≡ reached b j (steps n j q (right_list j l) (cut_bridge (right_list j l)))
    end n true t = ap (λ (z : Stream). some (z ∷ [])) (sym (same_equal j q t))
    end n false t = refl

    given : (n : ℕ) → length l ≤ n → reached (same p q) p (steps n p q l (cut_bridge l)) ≡ some (C ++ D)
    given zero h = absurd (omega (arith, halves.left_shorter))
    given (suc n) h =
        ap (λ (b : Bool). reached b p (steps (suc n) p q l (cut_bridge l))) (no_same far)
        ∙ ap (steps (suc n) p q l) e
        ∙ ap₂ joined
        (left.given n (omega (arith, halves.left_shorter)))
        (end n (same j q) refl ∙ right.given n (omega (arith, halves.right_shorter)))

-- over the first list they give the chain of all samples
pub first-steps : {xs : List Stream} {p q : Stream} → LeftEnd (Of xs) p → RightEnd (Of xs) q → {C : List Stream} → BySteps (first_list p q xs) p q C
    → C ≡ upper xs
first-steps {xs} {p} {q} h k {C} b = go (position_decides p q)
  where
    l : List Stream
    l = first_list p q xs

    given : reached (same p q) p (steps (length l) p q l (cut_bridge l)) ≡ some C
    given = b.given (length l) (le_refl (length l))

    go : Dec (p ≡ q) → C ≡ upper xs
    go (yes e) =
        some-injective C (p ∷ []) (sym given ∙ (no_step e).given (length l) (le_refl (length l)))
        ∙ sym (one-corner h (subst (RightEnd (Of xs)) (sym e) k))
    go (no f) =
        some-injective C (upper l)
        (sym given
        ∙ ap (λ (t : Bool). reached t p (steps (length l) p q l (cut_bridge l))) (no_same f)
        ∙ steps-chain middle-rank (length l) l p q (first_list_ready h k f) (le_refl (length l)))
        ∙ first-list-chain h k

pub chain_by_steps_chain : (xs : List Stream) → chain_by_steps xs ≡ some (upper xs)
chain_by_steps_chain xs = chain_by_steps_is middle-rank xs

-- so refusal 18 is never given
pub no_step_without_bridge : (xs : List Stream) → step_without_bridge xs ≡ false
unfolding step_without_bridge
no_step_without_bridge xs =
    ap₂ (λ (o u : Option (List Stream)). is_none o || is_none u) (chain_by_steps_chain xs) (chain_by_steps_chain (map mirrored xs))

-- ---- lists of items with their positions: the lists of a step are those of the positions

pub those-map : {A B : Type 0} (f : B → Bool) (g : A → B) (l : List A) → those f (map g l) ≡ map g (those (λ x. f (g x)) l)
unfolding those
those-map f g [] = refl
those-map {A} {B} f g (x ∷ l) = go (f (g x)) (those-map f g l)
  where
    go : (b : Bool) → those f (map g l) ≡ map g (those (λ x. f (g x)) l)
        → consIf b (g x) (those f (map g l)) ≡ map g (consIf b x (those (λ x. f (g x)) l))
    go true e = ap (λ (k : List B). g x ∷ k) e
    go false e = e

module _ {A : Type 0} (at : A → Stream) where
  pub left-list-map : (i : A) (l : List A) → left_list (at i) (map at l) ≡ map at (i ∷ those (λ x. lt_z (at x).east (at i).east) l)
  unfolding left_list
  left-list-map i l = ap (λ (k : List Stream). at i ∷ k) (those-map (λ s. lt_z s.east (at i).east) at l)

  pub right_list_map : (j : A) (l : List A) → right_list (at j) (map at l) ≡ map at (j ∷ those (λ x. lt_z (at j).east (at x).east) l)
  unfolding right_list
  right_list_map j l = ap (λ (k : List Stream). at j ∷ k) (those-map (λ s. lt_z (at j).east s.east) at l)

  pub first-list-map : (p q : A) (l : List A)
      → first_list (at p) (at q) (map at l) ≡ map at (p ∷ q ∷ those (λ x. lt_z (at p).east (at x).east && lt_z (at x).east (at q).east) l)
  unfolding first_list
  first-list-map p q l = ap (λ (k : List Stream). at p ∷ at q ∷ k) (those-map (λ s. lt_z (at p).east s.east && lt_z s.east (at q).east) at l)
