-- "Rounds start from the whole list in its order": from the sample numbers 0, 1, 2 .. in turn the rounds find the bridge with its ends "reported by
-- lowest number at their position".
-- Assumes nothing.
use Rattle.std.specs.Prelude.{◌≡◌, refl, true, ℕ, ◌≤◌, ℤ, length}
use Rattle.std.proofs.Common.{sym, ap, ap₂, ◌∙◌, subst, arith}
use Rattle.std.proofs.Math.Option.{some, some-injective}
use mathlib.Core.List.{List, map, Memᴰ}
use Rattle.rules.specs.Streams.{Stream, sample, same}
use Rattle.rules.specs.Chain.{lowest}
use Rattle.rules.specs.Bridge.{Bridge, ends, bridge, spans, reported}
use Rattle.rules.specs.Round.{round, rounds}
use Rattle.rules.specs.Entries.{reported_bridge}
use Rattle.laws_outline.specs.ListLaws.{is_some_of}
use Rattle.laws_outline.specs.SamePosition.{equal_same}
use Rattle.laws_rounds.specs.ListedItems.{first_of}
use Rattle.laws_rounds.specs.Pairs.{here}
use Rattle.laws_rounds.specs.Rounds.{Found, found_bridge}
use Rattle.laws_rounds.proofs.Rounds.{rounds_find}
use Rattle.laws_rounds.specs.WholeList.{numbers, numbers-length, numbers-samples, first-is-lowest}

-- THE LAW: as many rounds as there are samples, or more, report the bridge
pub rounds_report : (xs : List Stream) (a : ℤ) (n : ℕ) → length xs ≤ n → spans a xs ≡ true
    → rounds (sample xs) n a (round (sample xs) a (numbers (length xs))) ≡ some (reported_bridge xs (bridge xs a))
unfolding reported
rounds_report xs a n h s = b.1 ∙ ap some (sym (ap (reported_bridge xs) is_found ∙ lowest-ends))
  where
    at : ℕ → Stream
    at = sample xs

    l : List ℕ
    l = numbers (length xs)

    whole : map at l ≡ xs
    whole = numbers-samples xs

    b : (b : Bridge ℕ) × (rounds at n a (round at a l) ≡ some b) × Found at a l b
    b = rounds_find at a n l (omega (arith, numbers-length (length xs))) (subst (λ (ys : List Stream). spans a ys ≡ true) (sym whole) s)

    f : Found at a l b.0
    f = b.2

    is_found : bridge xs a ≡ some (ends (at b.0.left) (at b.0.right))
    is_found = subst (λ (ys : List Stream). bridge ys a ≡ some (ends (at b.0.left) (at b.0.right))) whole (found_bridge at a f)

    lowest-is : {i : ℕ} → Memᴰ (at i) (map at l) → first_of (here at (at i)) l ≡ some i → lowest xs (at i) ≡ i
    lowest-is {i} m e =
        let in_xs = subst (λ (ys : List Stream). Memᴰ (at i) ys) whole m in
        let found = is_some_of (same (at i)) in_xs (equal_same {p = at i} refl) in
        some-injective (lowest xs (at i)) i (sym (first-is-lowest xs (at i) found) ∙ e)

    lowest-ends : ends (lowest xs (at b.0.left)) (lowest xs (at b.0.right)) ≡ b.0
    lowest-ends = ap₂ ends (lowest-is f.over.from f.first-left) (lowest-is f.over.to f.first_right)
