-- The first list: from the ends of all samples of a side, each by the lowest number at its position, it is a list of which a chain is made, and its chain is
-- that of all the samples.
-- Assumes nothing.
use Rattle.std.specs.Prelude.{◌≡◌, Bool, true, false, List, ◌∷◌, map, ℕ, zero, suc, ◌≤◌, ℤ, pos, length, drop}
use Rattle.std.proofs.Common.{sym, ap, ◌∙◌, subst, subst₂, arith}
use Rattle.std.proofs.Math.Path.{fun_ext}
use Rattle.std.proofs.lemmas.List.{length-map}
use Rattle.std.proofs.Math.ListN.{get_or-map}
use Rattle.rules.specs.Lists.{those}
use Rattle.rules.specs.Streams.{Stream, stream, streams, sample, mirrored}
use Rattle.rules.specs.Chain.{upper}
use Rattle.rules.specs.Step.{first_list}
use Rattle.laws_outline.specs.StepsAtCut.{Ready, first_list_ready}
use Rattle.laws_rounds.specs.StepsAtMiddle.{BySteps, first-steps, first-list-map}
use Rattle.laws_rounds.specs.WholeList.{numbers, numbers-samples}
use Rattle.samples.specs.Positions.{at}
use Rattle.samples.specs.Samples.{streams-length, sample-at, samples-at}
use Rattle.step.specs.NumberLists.{between, first_numbers}
use Rattle.step.specs.Ends.{EndOf, nearest, nearest-is}
use Rattle.step.specs.LowestFirst.{Named, named_those, named_cons, named_first, named_samples}
use Rattle.step.specs.Chaining.{Chainable}
use Rattle.step.specs.Stepping.{side_samples, number_at}

-- ---- the samples of a side by their numbers

module _ (es ns : List ℤ) (even : length es ≡ length ns) where
  side-length : (lower : Bool) → length (side_samples es ns lower) ≡ length es
  side-length true = length-map (streams es ns) mirrored ∙ streams-length es ns even
  side-length false = streams-length es ns even

  side-at : (lower : Bool) → sample (side_samples es ns lower) ≡ at es ns lower
  side-at true =
      fun_ext (λ i. get_or-map mirrored (streams es ns) i (stream (pos 0) (pos 0)) ∙ ap mirrored (sample-at es ns even i))
  side-at false = samples-at es ns even

  pub side-all : (lower : Bool) → map (at es ns lower) (numbers (length es)) ≡ side_samples es ns lower
  side-all lower =
      subst₂
      (λ (f : ℕ → Stream) (n : ℕ). map f (numbers n) ≡ side_samples es ns lower)
      (side-at lower)
      (side-length lower)
      (numbers-samples (side_samples es ns lower))

  named_all : (lower : Bool) → Named (at es ns lower) (number_at es ns lower) (numbers (length es))
  named_all lower =
      subst₂
      (λ (f : ℕ → Stream) (n : ℕ). Named f (number_at es ns lower) (numbers n))
      (side-at lower)
      (side-length lower)
      (named_samples (side_samples es ns lower))

  -- ---- the first list

  module _ (lower : Bool) {p q : ℕ} (h : EndOf (at es ns lower) false (numbers (length es)) p) (k : EndOf (at es ns lower) true (numbers (length es)) q) where
    abbrev to : ℕ → Stream
    to = at es ns lower

    abbrev number : Stream → ℕ
    number = number_at es ns lower

    abbrev all : List ℕ
    all = numbers (length es)

    first-positions : first_list (to p) (to q) (map to all) ≡ map to (first_numbers es p q)
    first-positions = first-list-map to p q all

    pub first_chainable : Chainable to number (first_numbers es p q) p q
    first_chainable =
        record {
          started = omega arith;
          ready = λ g. subst (λ (xs : List Stream). Ready xs (to p) (to q)) first-positions (first_list_ready h.is-end k.is-end g);
          named = named_cons to number p (q ∷ inner) (told h) (named_cons to number q inner (told k)
              (named_those to number (λ s. between (to p).east (to q).east s.east) all (named_all lower)));
          told = told h;
        }
      where
        inner : List ℕ
        inner = those (λ x. between (to p).east (to q).east (to x).east) all

        told : {right : Bool} {x : ℕ} → EndOf to right all x → number (to x) ≡ x
        told e = named_first to number all (named_all lower) e.first

    -- what the rule's steps give over it is the chain of all samples
    pub first-chain : {C : List Stream} → BySteps (map to (first_numbers es p q)) (to p) (to q) C → C ≡ upper (side_samples es ns lower)
    first-chain {C} b =
        first-steps h.is-end k.is-end (subst (λ (xs : List Stream). BySteps xs (to p) (to q) C) (sym first-positions) b) ∙ ap upper (side-all lower)

-- the scan finds the ends
pub end_is : (to : ℕ → Stream) (right : Bool) (n : ℕ) → 1 ≤ n → EndOf to right (numbers n) (nearest to right (drop 1 (numbers n)))
unfolding numbers
end_is to right zero h = absurd (omega arith)
end_is to right (suc n) h = nearest-is to right (map suc (numbers n))
