-- The first place that no corner beats has the strongest set, and is the first that has it. Assumes nothing.
use Rattle.std.specs.Prelude.{◌≡◌, ℕ, ◌<◌, ℤ, pos, ◌≤ℤ◌, ◌<ℤ◌, length}
use Rattle.std.proofs.Common.{sym, ap₂, subst, arith}
use mathlib.Core.List.{List, [], ◌∷◌, Memᴰ}
use Rattle.whole.specs.Laws.{test-lt, test_nlt}
use Rattle.rules.specs.Streams.{Stream, stream, sample}
use Rattle.rules.specs.Use.{set_on, strongest, strongest_place}
use Rattle.rules.specs.Entries.{Strongest, strongest_of}
use Rattle.laws_rings.specs.Strongest.{strongest_only, strongest_place_only}
use Rattle.laws_outline.specs.ListLaws.{at_place_in}
use Rattle.envelope.specs.FirstBest.{First, first_unbeaten, stronger}

abbrev pub greatest : ℤ → ℕ → Strongest
greatest z r = record { set = z; place = r }

module _ (x y : ℤ) where
  pub first-strongest : (xs : List Stream) {r : ℕ} → First (stronger x y) xs (length xs) r →
      strongest_of x y xs ≡ greatest (set_on x y (sample xs r)) r
  first-strongest [] f = absurd (omega (arith, f.here))
  first-strongest (p ∷ ps) {r} f = ap₂ greatest value place
    where
      at_most : (s : Stream) → Memᴰ s (p ∷ ps) → set_on x y s ≤ℤ set_on x y (sample (p ∷ ps) r)
      at_most s m = test_nlt (set_on x y (sample (p ∷ ps) r)) (set_on x y s) (first_unbeaten f m)

      value : strongest x y p ps ≡ set_on x y (sample (p ∷ ps) r)
      value = strongest_only x y p ps (at_place_in (p ∷ ps) r (stream (pos 0) (pos 0)) f.here) at_most

      weaker : (k : ℕ) → k < r → set_on x y (sample (p ∷ ps) k) <ℤ set_on x y (sample (p ∷ ps) r)
      weaker k h = test-lt (set_on x y (sample (p ∷ ps) k)) (set_on x y (sample (p ∷ ps) r)) (f.before k h)

      place : strongest_place x y p ps ≡ r
      place =
          strongest_place_only x y p ps r f.here (sym value)
          (λ k h. subst (λ (z : ℤ). set_on x y (sample (p ∷ ps) k) <ℤ z) (sym value) (weaker k h))
