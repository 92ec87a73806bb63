-- Where the two halves stand in the ring that they close to: the first at the front, the other from a place c on, the first corner counted again after the
-- last one. Assumes nothing.
use Rattle.std.specs.Prelude.{◌≡◌, ◌⊎◌, Bool, true, false, cond, ℕ, zero, suc, ◌+◌, ◌≤◌, ◌<◌, pos}
use Rattle.std.proofs.Math.Path.{refl, sym, ap}
use Rattle.std.proofs.Common.{◌∙◌, inl, inr, ⊎_elim, get_or-append-add}
use Rattle.std.proofs.Math.Option.{some}
use mathlib.Core.List.{List, [], ◌∷◌, ◌++◌, append_assoc, append-nil}
use native.Mathlib.Omega.{arith}
use Rattle.std.proofs.Math.ListN.{length, length-append, get_or-append}
use Rattle.rules.specs.Streams.{Stream, stream, sample, same}
use Rattle.rules.specs.Ring.{leave_last}
use Rattle.laws_outline.specs.SamePosition.{same_equal}
use Rattle.laws_rings.specs.Halves.{around}
use Rattle.laws_halves.specs.Closing.{opened}

-- a list without its last corner, if that is a: with a put back it is the list, or nothing was left out
leave_last_cases : (a : Stream) (X : List Stream) → (leave_last (some a) X ++ (a ∷ []) ≡ X) ⊎ (leave_last (some a) X ≡ X)
leave_last_cases a [] = inr refl
leave_last_cases a (p ∷ []) = go (same a p) refl
  where
    go : (b : Bool) → same a p ≡ b → (cond b [] (p ∷ []) ++ (a ∷ []) ≡ p ∷ []) ⊎ (cond b [] (p ∷ []) ≡ p ∷ [])
    go true e = inl (ap (λ (s : Stream). s ∷ []) (same_equal a p e))
    go false e = inr refl
leave_last_cases a (p ∷ q ∷ X) =
    ⊎_elim (λ e. inl (ap (λ (l : List Stream). p ∷ l) e)) (λ e. inr (ap (λ (l : List Stream). p ∷ l) e)) (leave_last_cases a (q ∷ X))

-- the halves a ∷ U and d ∷ R in the ring r, the second from place c on. Its last place is that of the last corner, or the one after it
pub record Cut (r : List Stream) (a : Stream) (U : List Stream) (d : Stream) (R : List Stream) (c : ℕ) : Type 0 where
  pub count : (length r ≡ c + length R) ⊎ (length r ≡ suc (c + length R))
  pub upper_in : length U < length r
  pub upper_at : (i : ℕ) → i ≤ length U → sample r i ≡ sample (a ∷ U) i
  pub back_at : (i : ℕ) → i ≤ length R → sample (r ++ (a ∷ [])) (c + i) ≡ sample (d ∷ R) i
  pub second : (c ≡ length U) ⊎ ((c ≡ suc (length U)) × (same (sample (a ∷ U) (length U)) d ≡ false))

module _ (a : Stream) (U : List Stream) (d : Stream) (R : List Stream) where
  end : Stream
  end = sample (a ∷ U) (length U)

  -- X of the second half comes after the first, and Q after it, if anything does
  module _ (r X Q : List Stream) (e : r ++ (a ∷ []) ≡ (a ∷ U) ++ (X ++ Q)) where
    first_part : (i : ℕ) → i ≤ length U → sample (r ++ (a ∷ [])) i ≡ sample (a ∷ U) i
    first_part i h = ap (λ (l : List Stream). sample l i) e ∙ get_or-append (a ∷ U) (X ++ Q) (stream (pos 0) (pos 0)) i (omega arith)

    later_part : (i : ℕ) → i < length X → sample (r ++ (a ∷ [])) (suc (length U) + i) ≡ sample X i
    later_part i h =
        ap (λ (l : List Stream). sample l (suc (length U) + i)) e ∙ get_or-append-add (a ∷ U) (X ++ Q) i (stream (pos 0) (pos 0))
        ∙ get_or-append X Q (stream (pos 0) (pos 0)) i h

    total : length r + 1 ≡ suc (length U) + (length X + length Q)
    total = sym (length-append r (a ∷ [])) ∙ ap length e ∙ length-append (a ∷ U) (X ++ Q) ∙ ap (λ (n : ℕ). suc (length U) + n) (length-append X Q)

  module _ (r X : List Stream) (c : ℕ) (front : (Y : List Stream) × (r ≡ (a ∷ U) ++ Y) × ((Y ++ (a ∷ []) ≡ X) ⊎ (Y ≡ X)))
      (size : suc (c + length R) ≡ suc (length U) + length X)
      (at : (Q : List Stream) → r ++ (a ∷ []) ≡ (a ∷ U) ++ (X ++ Q) → (i : ℕ) → i ≤ length R → sample (r ++ (a ∷ [])) (c + i) ≡ sample (d ∷ R) i)
      (second : (c ≡ length U) ⊎ ((c ≡ suc (length U)) × (same end d ≡ false))) where
    made : (Q : List Stream) → r ++ (a ∷ []) ≡ (a ∷ U) ++ (X ++ Q) → (length r ≡ c + length R) ⊎ (length r ≡ suc (c + length R)) → Cut r a U d R c
    unfolding end
    made Q e n = record {
      count = n;
      upper_in = inside;
      upper_at = λ i h. sym (get_or-append r (a ∷ []) (stream (pos 0) (pos 0)) i (omega (arith, inside))) ∙ first_part r X Q e i h;
      back_at = at Q e;
      second = second;
    }
      where
        inside : length U < length r
        inside = let k = ap (length {A = Stream}) front.1 ∙ length-append (a ∷ U) front.0 in omega arith

    cut_made : Cut r a U d R c
    cut_made = ⊎_elim home open_end front.2
      where
        Y : List Stream
        Y = front.0

        back : r ++ (a ∷ []) ≡ (a ∷ U) ++ (Y ++ (a ∷ []))
        back = ap (λ (l : List Stream). l ++ (a ∷ [])) front.1 ∙ append_assoc (a ∷ U) Y (a ∷ [])

        home : Y ++ (a ∷ []) ≡ X → Cut r a U d R c
        home e = made [] whole (let t = total r X [] whole in inl (omega (arith, size)))
          where
            whole : r ++ (a ∷ []) ≡ (a ∷ U) ++ (X ++ [])
            whole = back ∙ ap (λ (l : List Stream). (a ∷ U) ++ l) (e ∙ sym (append-nil X))

        open_end : Y ≡ X → Cut r a U d R c
        open_end e = made (a ∷ []) whole (let t = total r X (a ∷ []) whole in inr (omega (arith, size)))
          where
            whole : r ++ (a ∷ []) ≡ (a ∷ U) ++ (X ++ (a ∷ []))
            whole = back ∙ ap (λ (l : List Stream). (a ∷ U) ++ (l ++ (a ∷ []))) e

  -- THE LAW: the halves stand so in the ring
  pub around-cut : (c : ℕ) × Cut (around (a ∷ U) (d ∷ R)) a U d R c
  unfolding end
  around-cut = go (same end d) refl
    where
      r : List Stream
      r = around (a ∷ U) (d ∷ R)

      go : (b : Bool) → same end d ≡ b → (c : ℕ) × Cut r a U d R c
      go true e = (length U, cut_made r R (length U) (leave_last (some a) R, opened a U d R true e, leave_last_cases a R) (omega arith) at (inl refl))
        where
          at : (Q : List Stream) → r ++ (a ∷ []) ≡ (a ∷ U) ++ (R ++ Q) → (i : ℕ) → i ≤ length R → sample (r ++ (a ∷ [])) (length U + i) ≡ sample (d ∷ R) i
          at Q q zero h =
              let n : length U + 0 ≡ length U = omega arith in
              ap (sample (r ++ (a ∷ []))) n ∙ first_part r R Q q (length U) (omega arith) ∙ same_equal end d e
          at Q q (suc i) h =
              let n : length U + suc i ≡ suc (length U) + i = omega arith in ap (sample (r ++ (a ∷ []))) n ∙ later_part r R Q q i (omega arith)
      go false e = (
        suc (length U),
        cut_made r (d ∷ R) (suc (length U)) (leave_last (some a) (d ∷ R), opened a U d R false e, leave_last_cases a (d ∷ R)) (omega arith)
            (λ Q q i h. later_part r (d ∷ R) Q q i (omega arith)) (inr (refl, e)),
      )
