-- The ring that two lists go round, by places: all of the first, and of the second what stands from place lo to before hi. Assumes nothing.
use Rattle.std.specs.Prelude.{◌≡◌, refl, Bool, true, false, cond, ◌&&◌, List, [], ◌∷◌, ◌++◌, ℕ, suc, ◌-◌, ◌≤◌, ◌<◌, ltb, length, take}
use Rattle.std.proofs.Common.{sym, ap, ap₂, ◌∙◌, arith, lt-ltb, ltb-true}
use Rattle.std.proofs.Math.Option.{Option, some}
use Rattle.std.proofs.Math.Seq.{slice}
use Rattle.rules.specs.Streams.{Stream, sample, same}
use Rattle.rules.specs.Ring.{last_of, leave_first, leave_last}
use Rattle.laws_rings.specs.Halves.{around}

pub last_at : (p : Stream) (C : List Stream) → last_of (p ∷ C) ≡ some (sample (p ∷ C) (length C))
last_at p [] = refl
last_at p (q ∷ C) = last_at q C

-- a list without its last corner, if that is a
leave_last_take : (a p : Stream) (X : List Stream)
    → leave_last (some a) (p ∷ X) ≡ take (cond (same a (sample (p ∷ X) (length X))) (length X) (suc (length X))) (p ∷ X)
leave_last_take a p [] = go (same a p)
  where
    go : (b : Bool) → cond b [] (p ∷ []) ≡ take (cond b 0 1) (p ∷ [])
    go true = refl
    go false = refl
leave_last_take a p (q ∷ X) = ap (λ (l : List Stream). p ∷ l) (leave_last_take a q X) ∙ go (same a (sample (q ∷ X) (length X)))
  where
    go : (b : Bool) → p ∷ take (cond b (length X) (suc (length X))) (q ∷ X) ≡ take (cond b (suc (length X)) (suc (suc (length X)))) (p ∷ q ∷ X)
    go true = refl
    go false = refl

-- what is left of R after U: without its first corner if that is the last of U, and without its last, if anything is left, if that is the first of U
pub record LeftIn (U R : List Stream) (lo hi : ℕ) : Type 0 where
  pub low : lo ≡ cond (same (sample U (length U - 1)) (sample R 0)) 1 0
  pub high : hi ≡ cond (ltb lo (length R) && same (sample U 0) (sample R (length R - 1))) (length R - 1) (length R)

module _ (a : Stream) (U : List Stream) (d : Stream) (R : List Stream) where
  -- the first corner of the second list is left out, or not
  pub opened : (b : Bool) → same (sample (a ∷ U) (length U)) d ≡ b → around (a ∷ U) (d ∷ R) ≡ (a ∷ U) ++ leave_last (some a) (cond b R (d ∷ R))
  opened b e =
      ap (λ (o : Option Stream). (a ∷ U) ++ leave_last (some a) (leave_first o (d ∷ R))) (last_at a U)
      ∙ ap (λ (t : Bool). (a ∷ U) ++ leave_last (some a) (cond t R (d ∷ R))) e

  -- and the last
  ended : (b : Bool) (R : List Stream)
      → leave_last (some a) (cond b R (d ∷ R))
      ≡ slice (cond b 1 0) (cond (ltb (cond b 1 0) (suc (length R)) && same a (sample (d ∷ R) (length R))) (length R) (suc (length R))) (d ∷ R)
  ended false R =
      leave_last_take a d R
      ∙ ap (λ (t : Bool). take (cond (t && same a (sample (d ∷ R) (length R))) (length R) (suc (length R))) (d ∷ R)) (sym (lt-ltb 0 (suc (length R)) (omega arith)))
  ended true [] = refl
  ended true (p ∷ R) = leave_last_take a p R ∙ go (same a (sample (p ∷ R) (length R)))
      ∙ ap (λ (t : Bool). slice 1 (cond (t && same a (sample (p ∷ R) (length R))) (suc (length R)) (suc (suc (length R)))) (d ∷ p ∷ R))
      (sym (lt-ltb 1 (suc (suc (length R))) (omega arith)))
    where
      go : (b : Bool) → take (cond b (length R) (suc (length R))) (p ∷ R) ≡ slice 1 (cond b (suc (length R)) (suc (suc (length R)))) (d ∷ p ∷ R)
      go true = refl
      go false = refl

-- THE LAW
pub around-left : (U R : List Stream) {lo hi : ℕ} → 0 < length U → 0 < length R → LeftIn U R lo hi → around U R ≡ U ++ slice lo hi R
around-left [] R h k l = absurd (omega arith)
around-left (a ∷ U) [] h k l = absurd (omega arith)
around-left (a ∷ U) (d ∷ R) {lo} {hi} h k l =
    opened a U d R (same (sample (a ∷ U) (length U)) d) refl
    ∙ ap (λ (C : List Stream). (a ∷ U) ++ C) (ended a U d R (same (sample (a ∷ U) (length U)) d) R ∙ ap₂ (λ (f t : ℕ). slice f t (d ∷ R)) (sym low) (sym high))
  where
    one_less : (C : List Stream) → suc (length C) - 1 ≡ length C
    one_less C = omega arith

    low : lo ≡ cond (same (sample (a ∷ U) (length U)) d) 1 0
    low = l.low ∙ ap (λ (i : ℕ). cond (same (sample (a ∷ U) i) d) 1 0) (one_less U)

    high : hi ≡ cond (ltb (cond (same (sample (a ∷ U) (length U)) d) 1 0) (suc (length R)) && same a (sample (d ∷ R) (length R))) (length R) (suc (length R))
    high =
        l.high
        ∙ ap₂ (λ (f i : ℕ). cond (ltb f (suc (length R)) && same a (sample (d ∷ R) i)) i (suc (length R))) low (one_less R)

-- the part is one, and starts with the first corner or the second
pub left_in_order : {U R : List Stream} {lo hi : ℕ} → 0 < length R → LeftIn U R lo hi → (lo ≤ hi) × (hi ≤ length R) × (lo ≤ 1)
left_in_order {U} {R} {lo} {hi} k l = (ends.0, ends.1, some (same (sample U (length U - 1)) (sample R 0)) l.low)
  where
    some : (b : Bool) → lo ≡ cond b 1 0 → lo ≤ 1
    some true e = omega arith
    some false e = omega arith

    go : (s t : Bool) → ltb lo (length R) ≡ s → lo ≤ 1 → hi ≡ cond (s && t) (length R - 1) (length R) → (lo ≤ hi) × (hi ≤ length R)
    go false t e h f = (omega arith, omega arith)
    go true false e h f = (omega arith, omega arith)
    go true true e h f = (omega (arith, ltb-true lo (length R) e), omega arith)

    ends : (lo ≤ hi) × (hi ≤ length R)
    ends =
        go (ltb lo (length R)) (same (sample U 0) (sample R (length R - 1))) refl (some (same (sample U (length U - 1)) (sample R 0)) l.low) l.high
