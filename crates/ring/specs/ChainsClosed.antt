-- Both chains in scratch as sample numbers close to the ring of the samples.
-- Assumes nothing.
use Rattle.std.specs.Prelude.{◌≡◌, refl, ◌⊎◌, true, ℕ, zero, suc, ◌+◌, ◌-◌, ◌≤◌, ◌<◌, ℤ, length, take, drop}
use Rattle.std.proofs.Math.Path.{sym, ap, ap₂, subst⁻¹}
use Rattle.std.proofs.Common.{◌∙◌, subst, inl, inr, length-drop, length-take-le, get_or-take}
use mathlib.Core.List.Memᴰ
use mathlib.Core.List.{List, [], ◌∷◌, map, append-nil, Memᴰ}
use Rattle.std.proofs.Math.Decide.{dec_lt}
use native.Mathlib.Omega.{arith}
use Rattle.std.proofs.Math.ListN.{get_or}
use Rattle.std.proofs.Math.Seq.{get_or-drop}
use Rattle.rules.specs.Lists.{some_of}
use Rattle.rules.specs.Streams.{Stream, streams, sample, same}
use Rattle.rules.specs.Chain.{Of, UpperChain, empty, starts, upper, lower, lowest, upper_numbers, lower_numbers}
use Rattle.rules.specs.Ring.{closed, ring}
use Rattle.rules.specs.Refusals.{done}
use Rattle.rules.specs.Entries.{sample_tests}
use Rattle.laws_outline.specs.ListLaws.{at_place_in, is_some_of, first_place_in, first_place_passes}
use Rattle.laws_outline.specs.SamePosition.{same_equal, equal_same}
use Rattle.laws_outline.specs.Chains.{upper_is, upper-corners}
use Rattle.laws_outline.specs.SameOutline.{lower-corners}
use Rattle.samples.specs.Samples.{read_near, streams-length}
use Rattle.laws_stack.specs.Places.{listed, length-listed, listed-alike}
use Rattle.walk.specs.TwoRings.{Corners, both, count}
use Rattle.closing.specs.TwoChains.{Both, upper_at, lower_at}
use Rattle.samples.specs.InOrder.{passed_tests, sampled_few}
use Rattle.chains.specs.BothSides.{BothAre, tested}

-- ---- corners by their numbers

module _ (xs : List Stream) where
  at_position : {p : Stream} → Memᴰ p xs → some_of (same p) xs ≡ true
  at_position {p} m = is_some_of (same p) m (equal_same {p = p} refl)

  lowest-below : {p : Stream} → Memᴰ p xs → lowest xs p < length xs
  unfolding lowest
  lowest-below {p} m = first_place_in (same p) xs (at_position m)

  lowest-sample : {p : Stream} → Memᴰ p xs → sample xs (lowest xs p) ≡ p
  unfolding lowest
  lowest-sample {p} m = sym (same_equal p (sample xs (lowest xs p)) (first_place_passes (same p) xs _ (at_position m)))

  corners-back : (C : List Stream) → ((p : Stream) → Memᴰ p C → Memᴰ p xs) → map (sample xs) (map (lowest xs) C) ≡ C
  corners-back [] h = refl
  corners-back (p ∷ C) h = ap₂ ◌∷◌ (lowest-sample (h p (Memᴰ.head refl))) (corners-back C (λ q m. h q (Memᴰ.tail m)))

-- what a function makes of the first items of a list, by their places
listed-take : {B : Type 0} (f : ℕ → B) (m : ℕ) (w : List ℕ) → m ≤ length w → listed (λ i. f (get_or w i 0)) m ≡ map f (take m w)
listed-take f zero w h = refl
listed-take f (suc m) [] h = absurd (omega arith)
listed-take f (suc m) (x ∷ w) h = ap (λ (l : List _). f x ∷ l) (listed-take f m w (omega arith))

-- m numbers at the front of w are those of the corners C, which are samples
module _ (xs C : List Stream) (given : (p : Stream) → Memᴰ p C → Memᴰ p xs) {m : ℕ} (w : List ℕ) (few : m ≤ length w)
    (is : take m w ≡ map (lowest xs) C) where
  corners-listed : C ≡ listed (λ i. sample xs (get_or w i 0)) m
  corners-listed = sym (listed-take (sample xs) m w few ∙ ap (map (sample xs)) is ∙ corners-back xs C given)

  number-below : (i : ℕ) → i < m → get_or w i 0 < length xs
  number-below i h =
      let l : i < length (take m w) = omega (arith, length-take-le m w few) in
      let o = Memᴰ.of_map (lowest xs) C (subst (λ (k : List ℕ). Memᴰ (get_or (take m w) i 0) k) is (at_place_in (take m w) i 0 l)) in
      let e : get_or w i 0 ≡ lowest xs o.0 = sym (get_or-take m w i 0 h) ∙ sym o.2 in
      subst⁻¹ (λ (n : ℕ). n < length xs) e (lowest-below xs (given o.0 o.1))

-- where there is a sample the chain has a corner
corner_for : {xs C : List Stream} → UpperChain (Of xs) C → {p : Stream} → Memᴰ p xs → 0 < length C
corner_for (empty f) {p} m = absurd (f p m)
corner_for (starts l g) m = omega arith

-- ---- both chains of samples, as they stand in w, with no second list behind them

module _ (es ns : List ℤ) where
  abbrev xs : List Stream
  xs = streams es ns

  alone : both es ns [] [] ≡ xs
  unfolding streams
  alone = append-nil xs

  -- samples that passed their tests
  pub samples-corners : (scratch : List ℕ) → tested es ns scratch ≡ done tt → Corners es ns [] []
  samples-corners scratch e =
      let s = sampled_few es ns (drop 3 (sample_tests es ns scratch)) (passed_tests tt (sample_tests es ns scratch) e) in
      record {
        even = s.0.even;
        even2 = refl;
        few = omega (arith, s.1);
        near = λ k. read_near s.0 k (ap (λ (l : List Stream). sample l k) alone);
      }

  module _ {u v : ℕ} {w : List ℕ} (b : BothAre es ns u v w) where
    upper_few : u ≤ length w
    upper_few = let h = b.inside in omega arith

    lower_few : v ≤ length (drop u w)
    lower_few = let h = b.inside in omega (arith, length-drop u w)

    upper_given : (p : Stream) → Memᴰ p (upper xs) → Memᴰ p xs
    upper_given p m = upper-corners (upper_is xs) p m

    upper-listed : upper xs ≡ listed (upper_at es ns [] [] w u) u
    unfolding upper_numbers
    upper-listed =
        corners-listed xs (upper xs) upper_given w upper_few b.upper_is ∙ ap (λ (l : List Stream). listed (λ i. sample l (get_or w i 0)) u) (sym alone)

    lower-listed : lower xs ≡ listed (lower_at es ns [] [] w u) v
    unfolding lower_numbers
    lower-listed =
        corners-listed xs (lower xs) (lower-corners xs) (drop u w) lower_few b.lower-is
        ∙ ap (λ (l : List Stream). listed (λ i. sample l (get_or (drop u w) i 0)) v) (sym alone)
        ∙ listed-alike (λ i. sample (both es ns [] []) (get_or (drop u w) i 0)) (lower_at es ns [] [] w u) v
        (λ i h. ap (sample (both es ns [] [])) (get_or-drop u w i 0))

    pub sides-closed : ring xs ≡ closed (listed (upper_at es ns [] [] w u) u) (listed (lower_at es ns [] [] w u) v)
    unfolding ring
    sides-closed = ap₂ closed upper-listed lower-listed

    upper_some : (D : List Stream) → lower xs ≡ D → (0 < u) ⊎ (v ≡ 0)
    upper_some [] e = inr (sym (length-listed (lower_at es ns [] [] w u) v) ∙ ap length (sym lower-listed ∙ e))
    upper_some (q ∷ D) e =
        let m = lower-corners xs q (subst⁻¹ (λ (l : List Stream). Memᴰ q l) e (Memᴰ.head refl)) in
        inl (omega (arith, corner_for (upper_is xs) m, ap length upper-listed, length-listed (upper_at es ns [] [] w u) u))

    below : length es ≡ length ns → (i : ℕ) → i < u + v → Dec (i < u) → get_or w i 0 < count es []
    unfolding upper_numbers lower_numbers
    below e i h (yes l) = omega (arith, number-below xs (upper xs) upper_given w upper_few b.upper_is i l, streams-length es ns e)
    below e i h (no l) =
        let q : u + (i - u) ≡ i = omega arith in
        let k = number-below xs (lower xs) (lower-corners xs) (drop u w) lower_few b.lower-is (i - u) (omega arith) in
        omega (arith, k, get_or-drop u w (i - u) 0 ∙ ap (λ (j : ℕ). get_or w j 0) q, streams-length es ns e)

    pub sides-both : length es ≡ length ns → Both (count es []) w u v
    sides-both e = record {
      stand = record { room = b.inside; below = λ i h. below e i h (dec_lt i u) };
      some = upper_some (lower xs) refl;
    }
