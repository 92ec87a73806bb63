-- The chain by steps is the chain. A step may cut its list anywhere from its left end's east to below its right end's; that the rank floor(t/2) of the easts
-- lies there, and that neither list exceeds half, follows from what a middle rank is: the laws below take that fact, `middle`, as an argument.
-- Assumes nothing.
use Rattle.std.specs.Prelude.{◌≡◌, ◌≢◌, true, false, cond, ◌&&◌, ◌≤ℤ◌, ◌<ℤ◌}
use Rattle.std.proofs.Math.Path.{refl, ap, ap₂, subst}
use Rattle.std.proofs.Common.{sym, ◌∙◌, ⊎_elim, true≢false, arith}
use Rattle.std.proofs.Math.Bool.{Bool}
use Rattle.std.proofs.Math.Option.{Option, none, some, none-ne-some}
use mathlib.Core.List.Memᴰ
use mathlib.Core.List.{List, [], ◌∷◌, map, Memᴰ}
use Prim.Native.Nat.{ℕ, zero, suc, ◌+◌, ◌-◌, ◌/◌, ◌≤◌, ◌<◌}
use Rattle.std.proofs.Math.IntN.{ℤ}
use Rattle.std.specs.Int.Signed.{le_z, lt_z, ≤ℤ_refl, <ℤ-≤ℤ_trans}
use Rattle.std.proofs.Math.ListN.{length}
use Rattle.std.proofs.lemmas.List.{length-map}
use Rattle.whole.specs.Laws.{≤ℤ_total, ≤ℤ_trans, <ℤ_trans, ≤ℤ_of-≡, nle_test, lt_test, nlt_test, test-lt, le_z_not_lt_z}
use Rattle.rules.specs.Lists.{consIf, those}
use Rattle.rules.specs.Streams.{Stream, same}
use Rattle.rules.specs.Picker.{rank}
use Rattle.rules.specs.Chain.{Of, LeftEnd, RightEnd, empty, left_end, right_end, upper}
use Rattle.rules.specs.Bridge.{Bridge}
use Rattle.rules.specs.Step.{cut, left_list, right_list, first_list, joined, reached, cut_bridge, steps, from_ends, chain_by_steps}
use Rattle.laws_outline.specs.ListLaws.{those_in, those_less, those_fewer, those_shorter, those_rest, those_none, those_again, in_those, member_counts, length-those-map, both_yes}
use Rattle.laws_outline.specs.SamePosition.{same_equal, same_no}
use Rattle.laws_outline.specs.Chains.{upper_only, left-end-is, right_end_is, left_end_some, right_end_some}
use Rattle.laws_outline.specs.Bridges.{BridgeOver, bridge-is, bridge_some}
use Rattle.laws_outline.specs.StepLists.{step-chain, one-corner, left-list-left-end, left_list_right_end, right_list_left_end, right_list_right_end, left_list_alone, right_list_alone, left_list_shorter, right_list_shorter, ends-apart, left_end_before, right_end_after, first-list-left-end, first_list_right_end, first-list-chain, first-list-length}

-- ---- a middle of some numbers: one of them, with fewer than half below it and no more than the other half above it

pub record Middle (es : List ℤ) (a : ℤ) : Type 0 where
  pub given : Memᴰ a es
  pub below : length (those (λ e. lt_z e a) es) < length es / 2
  pub above : length (those (λ e. lt_z a e) es) ≤ length es - length es / 2

-- a middle of the easts of some samples
module _ (l : List Stream) {a : ℤ} (m : Middle (map (λ s. s.east) l) a) where
  middle_west : length (those (λ s. lt_z s.east a) l) < length l / 2
  middle_west = rw (← length-those-map (λ e. lt_z e a) (λ (s : Stream). s.east) l, ← length-map l (λ (s : Stream). s.east)) m.below

  middle-east : length (those (λ s. lt_z a s.east) l) ≤ length l - length l / 2
  middle-east = rw (← length-those-map (λ e. lt_z a e) (λ (s : Stream). s.east) l, ← length-map l (λ (s : Stream). s.east)) m.above

-- ---- a list from its left end p to its right end q, of which no other sample stands at q's east

pub record Ready (l : List Stream) (p q : Stream) : Type 0 where
  pub left : LeftEnd (Of l) p
  pub right : RightEnd (Of l) q
  pub ahead : p.east <ℤ q.east
  pub lone : length (those (λ s. le_z q.east s.east) l) ≤ 1

module _ {l : List Stream} {p q : Stream} (r : Ready l p q) where
  pub ready_two : 2 ≤ length l
  ready_two = omega (arith, some_west, fewer)
    where
      west : Stream → Bool
      west s = lt_z s.east q.east

      fewer : length (those west l) < length l
      fewer = those_shorter west r.right.given (nlt_test (≤ℤ_refl q.east))

      some_west : 0 < length (those west l)
      some_west = member_counts (in_those west r.left.given (lt_test r.ahead))

  module _ {a : ℤ} (m : Middle (map (λ s. s.east) l) a) where
    -- a middle of the easts lies from p's east to below q's
    pub middle_from : p.east ≤ℤ a
    middle_from = let o = Memᴰ.of_map (λ (s : Stream). s.east) l m.given in ≤ℤ_trans (r.left.least o.0 o.1) (≤ℤ_of-≡ o.2)

    pub middle-below : a <ℤ q.east
    middle-below = ⊎_elim (λ h. absurd (past h)) (λ h. h) (≤ℤ_total q.east a)
      where
        west : ℤ → Stream → Bool
        west z s = lt_z s.east z

        -- all but one are west of q
        but_one : length (those (west q.east) l) + length (those (λ s. le_z q.east s.east) l) ≡ length l
        but_one = those_rest (west q.east) (λ s. le_z q.east s.east) (λ s. le_z_not_lt_z q.east s.east) l

        half : length (those (west a) l) < length l / 2
        half = middle_west l m

        past : q.east ≤ℤ a → ⊥
        past h =
            let less = those_less (west q.east) (west a) (λ s t. lt_test (<ℤ-≤ℤ_trans (test-lt s.east q.east t) h)) l in
            let two = ready_two in
            let one = r.lone in
            omega (arith, half, but_one)

-- ---- the two lists of a step, and the first list, are ready

-- one item at most before a list with none
one_at_most : {A : Type 0} (c : Bool) (x : A) {ys : List A} → ys ≡ [] → length (consIf c x ys) ≤ 1
one_at_most {A} true x e = omega (arith, ap (λ (l : List A). length l) e)
one_at_most {A} false x e = omega (arith, ap (λ (l : List A). length l) e)

module _ {l : List Stream} {p q : Stream} (r : Ready l p q) {a : ℤ} {i j : Stream} (b : BridgeOver (Of l) a i j) where
  pub left_list_ready : p ≢ i → Ready (left_list i l) p i
  unfolding left_list those
  left_list_ready f =
      record {
        left = left-list-left-end l b r.left f;
        right = left_list_right_end l b;
        ahead = left_end_before r.left b f;
        lone = one_at_most (le_z i.east i.east) i (those_none (λ s. le_z i.east s.east) (those (λ s. lt_z s.east i.east) l)
            (λ s m. nle_test (test-lt s.east i.east (those_in (λ s. lt_z s.east i.east) l m).1)));
      }

  pub right_list_ready : j ≢ q → Ready (right_list j l) j q
  unfolding right_list those
  right_list_ready f =
      record {
        left = right_list_left_end l b;
        right = right_list_right_end l b r.right f;
        ahead = jq;
        lone = go (le_z q.east j.east) (nle_test jq);
      }
    where
      jq : j.east <ℤ q.east
      jq = right_end_after r.right b f

      past : Stream → Bool
      past s = le_z q.east s.east

      east_of : Stream → Bool
      east_of s = lt_z j.east s.east

      go : (c : Bool) → c ≡ false → length (consIf c j (those past (those east_of l))) ≤ 1
      go true e = absurd (true≢false e)
      go false e = omega (arith, those_again past east_of l, r.lone)

module _ {xs : List Stream} {p q : Stream} (h : LeftEnd (Of xs) p) (k : RightEnd (Of xs) q) where
  pub first_list_ready : p ≢ q → Ready (first_list p q xs) p q
  unfolding first_list those
  first_list_ready f =
      record { left = first-list-left-end h k; right = first_list_right_end h k; ahead = pq; lone = go (le_z q.east p.east) (nle_test pq) }
    where
      pq : p.east <ℤ q.east
      pq = ends-apart h k f

      past : Stream → Bool
      past s = le_z q.east s.east

      between : Stream → Bool
      between s = lt_z p.east s.east && lt_z s.east q.east

      inner : length (consIf (past q) q (those past (those between xs))) ≤ 1
      inner =
          one_at_most (past q) q (those_none past (those between xs) (λ s m. nle_test
          (test-lt s.east q.east (both_yes (lt_z p.east s.east) (lt_z s.east q.east) (those_in between xs m).1).1)))

      go : (c : Bool) → c ≡ false → length (consIf c p (consIf (past q) q (those past (those between xs)))) ≤ 1
      go true e = absurd (true≢false e)
      go false e = inner

-- ---- the steps

module _ (middle : (es : List ℤ) → 2 ≤ length es → Middle es (rank (length es / 2) es)) where
  cut-middle : (l : List Stream) → 2 ≤ length l → Middle (map (λ s. s.east) l) (cut l)
  unfolding cut
  cut-middle l h =
      subst (λ (n : ℕ). Middle (map (λ s. s.east) l) (rank (n / 2) (map (λ s. s.east) l))) (length-map l (λ s. s.east))
      (middle (map (λ s. s.east) l) (subst (λ (n : ℕ). 2 ≤ n) (sym (length-map l (λ s. s.east))) h))

  -- a ready list has a bridge over its cut
  pub cut_bridge_some : {l : List Stream} {p q : Stream} → Ready l p q → (b : Bridge Stream) × (cut_bridge l ≡ some b)
  unfolding cut_bridge
  cut_bridge_some {l} r =
      let m = cut-middle l (ready_two r) in bridge_some l (cut l) r.left.given (middle_from r m) r.right.given (middle-below r m)

  pub cut-bridge-is : (l : List Stream) {b : Bridge Stream} → cut_bridge l ≡ some b → BridgeOver (Of l) (cut l) b.left b.right
  unfolding cut_bridge
  cut-bridge-is l e = bridge-is l (cut l) e

  -- one side of a step
  side-reached : (e : Stream) (c : Bool) (o : Option (List Stream)) (C : List Stream) → (c ≡ true → C ≡ e ∷ []) → (c ≡ false → o ≡ some C)
      → reached c e o ≡ some C
  side-reached e true o C f g = ap some (sym (f refl))
  side-reached e false o C f g = g refl

  -- room for as many steps, one in another, as the list has samples
  pub steps-chain : (n : ℕ) (l : List Stream) (p q : Stream) → Ready l p q → length l ≤ n → steps n p q l (cut_bridge l) ≡ some (upper l)
  unfolding steps
  steps-chain zero l p q r h = absurd (omega (arith, ready_two r))
  steps-chain (suc n) l p q r h = go (cut_bridge l) refl (λ l' p' q' r' h'. steps-chain n l' p' q' r' h')
    where
      go : (o : Option (Bridge Stream)) → cut_bridge l ≡ o
          → ((l' : List Stream) (p' q' : Stream) → Ready l' p' q' → length l' ≤ n → steps n p' q' l' (cut_bridge l') ≡ some (upper l'))
          → steps (suc n) p q l o ≡ some (upper l)
      go none e s = let b = cut_bridge_some r in absurd (none-ne-some b.0 (sym e ∙ b.1))
      go (some b) e s = ap₂ joined left right ∙ ap some (sym (step-chain l o))
        where
          i : Stream
          i = b.left

          j : Stream
          j = b.right

          o : BridgeOver (Of l) (cut l) i j
          o = cut-bridge-is l e

          left : reached (same p i) p (steps n p i (left_list i l) (cut_bridge (left_list i l))) ≡ some (upper (left_list i l))
          left =
              side-reached p (same p i) (steps n p i (left_list i l) (cut_bridge (left_list i l))) (upper (left_list i l)) here
              (λ f. s (left_list i l) p i (left_list_ready r o (same_no p i f)) (omega (arith, left_list_shorter l o)))
            where
              here : same p i ≡ true → upper (left_list i l) ≡ p ∷ []
              here t = let pi = same_equal p i t in left_list_alone l o (subst (LeftEnd (Of l)) pi r.left) ∙ ap (λ (x : Stream). x ∷ []) (sym pi)

          right : reached (same j q) q (steps n j q (right_list j l) (cut_bridge (right_list j l))) ≡ some (upper (right_list j l))
          right =
              side-reached q (same j q) (steps n j q (right_list j l) (cut_bridge (right_list j l))) (upper (right_list j l)) here
              (λ f. s (right_list j l) j q (right_list_ready r o (same_no j q f)) (omega (arith, right_list_shorter l o)))
            where
              here : same j q ≡ true → upper (right_list j l) ≡ q ∷ []
              here t =
                  let jq = same_equal j q t in right_list_alone l o (subst (RightEnd (Of l)) (sym jq) r.right) ∙ ap (λ (x : Stream). x ∷ []) jq

  -- THE LAW: the chain by steps is the chain, and no step lacks its bridge
  pub chain_by_steps_is : (xs : List Stream) → chain_by_steps xs ≡ some (upper xs)
  unfolding chain_by_steps
  chain_by_steps_is xs = go (left_end xs) (right_end xs) refl refl
    where
      no_samples : ((s : Stream) → ¬ Memᴰ s xs) → some [] ≡ some (upper xs)
      no_samples f = ap some (sym (upper_only (empty f)))

      both_ends : (p q : Stream) → LeftEnd (Of xs) p → RightEnd (Of xs) q → (c : Bool) → same p q ≡ c
          → cond c (some (p ∷ [])) (steps (length xs) p q (first_list p q xs) (cut_bridge (first_list p q xs))) ≡ some (upper xs)
      both_ends p q h k true e = ap some (sym (one-corner h (subst (RightEnd (Of xs)) (sym (same_equal p q e)) k)))
      both_ends p q h k false e =
          let f = same_no p q e in
          steps-chain (length xs) (first_list p q xs) p q (first_list_ready h k f) (first-list-length h k (ends-apart h k f)) ∙ ap some
          (first-list-chain h k)

      go : (o u : Option Stream) → left_end xs ≡ o → right_end xs ≡ u → from_ends o u xs ≡ some (upper xs)
      go none u e g = no_samples (λ s m. let p = left_end_some m in none-ne-some p.0 (sym e ∙ p.1))
      go (some p) none e g = no_samples (λ s m. let q = right_end_some m in none-ne-some q.0 (sym g ∙ q.1))
      go (some p) (some q) e g = both_ends p q (left-end-is xs e) (right_end_is xs g) (same p q) refl

  -- of a list of t, the left list has at most floor(t/2) items and the right list at most ceil(t/2)
  module _ (l : List Stream) (two : 2 ≤ length l) {i j : Stream} (b : BridgeOver (Of l) (cut l) i j) where
    pub left-list-half : length (left_list i l) ≤ length l / 2
    unfolding left_list
    left-list-half = omega (arith, less, below)
      where
        west : ℤ → Stream → Bool
        west z s = lt_z s.east z

        less : length (those (west i.east) l) ≤ length (those (west (cut l)) l)
        less = those_less (west i.east) (west (cut l)) (λ s t. lt_test (<ℤ-≤ℤ_trans (test-lt s.east i.east t) b.left)) l

        below : length (those (west (cut l)) l) < length l / 2
        below = middle_west l (cut-middle l two)

    pub right_list_half : length (right_list j l) ≤ length l - length l / 2
    unfolding right_list
    right_list_half = omega (arith, fewer, above)
      where
        east_of : ℤ → Stream → Bool
        east_of z s = lt_z z s.east

        fewer : length (those (east_of j.east) l) < length (those (east_of (cut l)) l)
        fewer =
            those_fewer (east_of j.east) (east_of (cut l)) (λ s t. lt_test (<ℤ_trans b.right (test-lt j.east s.east t))) b.to
            (nlt_test (≤ℤ_refl j.east)) (lt_test b.right)

        above : length (those (east_of (cut l)) l) ≤ length l - length l / 2
        above = middle-east l (cut-middle l two)
