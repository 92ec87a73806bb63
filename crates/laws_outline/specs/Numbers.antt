-- The numbers that report a chain, seen through a map of streams that is its own inverse, as norths negated or easts negated: the lowest number at a
-- position is the lowest at its image. So the lower chain is reported by the numbers of the upper chain of the samples with every north negated.
-- Assumes nothing.
use Rattle.std.specs.Prelude.{◌≡◌, refl, Bool, cond, List, [], ◌∷◌, map, ℕ, zero, suc}
use Rattle.std.proofs.Math.Path.{sym, ap, fun_ext}
use Rattle.std.proofs.Common.{◌∙◌}
use Rattle.std.proofs.lemmas.Simd.{map-map}
use Rattle.rules.specs.Lists.{first_place}
use Rattle.rules.specs.Streams.{Stream, same, mirrored}
use Rattle.rules.specs.Chain.{upper, lower, lowest, upper_numbers, lower_numbers}
use Rattle.laws_outline.specs.ListLaws.{same_true}
use Rattle.laws_outline.specs.SamePosition.{same_equal, equal_same}
use Rattle.laws_outline.specs.Sidedness.{mirrored-twice}

first-place-map : {A B : Type 0} (f : B → Bool) (g : A → B) (xs : List A) → first_place f (map g xs) ≡ first_place (λ x. f (g x)) xs
unfolding first_place
first-place-map f g [] = refl
first-place-map f g (x ∷ xs) = ap (λ (n : ℕ). cond (f (g x)) zero (suc n)) (first-place-map f g xs)

module _ (f : Stream → Stream) (twice : (p : Stream) → f (f p) ≡ p) where
  -- an image and a stream stand at one position where the first and the second's image do
  same_through : (p s : Stream) → same (f p) s ≡ same p (f s)
  same_through p s =
      same_true
      (same (f p) s)
      (same p (f s))
      (λ e. equal_same (sym (twice p) ∙ ap f (same_equal (f p) s e)))
      (λ e. equal_same (ap f (same_equal p (f s) e) ∙ twice s))

  pub lowest_through : (xs : List Stream) (p : Stream) → lowest xs (f p) ≡ lowest (map f xs) p
  unfolding lowest
  lowest_through xs p = ap (λ (t : Stream → Bool). first_place t xs) (fun_ext (same_through p)) ∙ sym (first-place-map (same p) f xs)

  -- the corners' images are reported by the corners' numbers
  pub numbers_through : (xs C : List Stream) → map (lowest xs) (map f C) ≡ map (lowest (map f xs)) C
  numbers_through xs C = map-map (lowest xs) f C ∙ ap (λ (g : Stream → ℕ). map g C) (fun_ext (lowest_through xs))

pub lower-mirrored : (xs : List Stream) → lower_numbers xs ≡ upper_numbers (map mirrored xs)
unfolding upper_numbers lower_numbers lower
lower-mirrored xs = numbers_through mirrored mirrored-twice xs (upper (map mirrored xs))
