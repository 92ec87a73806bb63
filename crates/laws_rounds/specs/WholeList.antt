-- "Rounds start from the whole list in its order": the sample numbers 0, 1, 2 .. in turn, and the first of them at a position, which is the "lowest number at
-- their position". What the rounds from them report is shown in proofs/WholeList.antt.
-- Assumes nothing.
use Rattle.std.specs.Prelude.{◌≡◌, refl, Bool, true, false, cond, ◌||◌, ℕ, zero, suc, ◌<◌, length, get_or}
use Rattle.std.proofs.Common.{ap, ◌∙◌, le_of_suc-le-suc, not-suc-le-zero, arith}
use Rattle.std.proofs.lemmas.Bool.{false≢true}
use Rattle.std.proofs.Math.Option
use Rattle.std.proofs.Math.Option.{some}
use mathlib.Core.List.{List, [], ◌∷◌, map, map-map}
use Rattle.std.proofs.lemmas.List.{length-map}
use Rattle.rules.specs.Lists.{first_place, some_of}
use Rattle.rules.specs.Streams.{Stream, sample, same}
use Rattle.rules.specs.Chain.{lowest}
use Rattle.laws_rounds.specs.ListedItems.{first_of}
use Rattle.laws_rounds.specs.Pairs.{here}

-- the numbers from 0 to below n
unfoldable pub numbers : ℕ → List ℕ
numbers zero = []
numbers (suc n) = zero ∷ map suc (numbers n)

pub numbers-length : (n : ℕ) → length (numbers n) ≡ n
unfolding numbers
numbers-length zero = refl
numbers-length (suc n) = ap suc (length-map (numbers n) suc ∙ numbers-length n)

-- an item of a list of numbers, each one higher
getD_map_suc : (l : List ℕ) (i d : ℕ) → i < length l → get_or (map suc l) i d ≡ suc (get_or l i d)
getD_map_suc [] i d h = absurd (not-suc-le-zero h)
getD_map_suc (x ∷ l) zero d h = refl
getD_map_suc (x ∷ l) (suc i) d h = getD_map_suc l i d (le_of_suc-le-suc h)

pub numbers-at : (n i d : ℕ) → i < n → get_or (numbers n) i d ≡ i
unfolding numbers
numbers-at zero i d h = absurd (not-suc-le-zero h)
numbers-at (suc n) zero d h = refl
numbers-at (suc n) (suc i) d h = getD_map_suc (numbers n) i d (omega (arith, numbers-length n)) ∙ ap suc (numbers-at n i d (le_of_suc-le-suc h))

-- the samples by their numbers
pub numbers-samples : (xs : List Stream) → map (sample xs) (numbers (length xs)) ≡ xs
unfolding numbers
numbers-samples [] = refl
numbers-samples (x ∷ xs) = ap (λ (l : List Stream). x ∷ l) (map-map (sample (x ∷ xs)) suc (numbers (length xs)) ∙ numbers-samples xs)

first_of_map : {A B : Type 0} (f : B → Bool) (g : A → B) (l : List A) → first_of f (map g l) ≡ Option.map g (first_of (λ x. f (g x)) l)
unfolding first_of
first_of_map f g [] = refl
first_of_map f g (x ∷ l) = go (f (g x)) (first_of_map f g l)
  where
    go : (b : Bool) → first_of f (map g l) ≡ Option.map g (first_of (λ x. f (g x)) l)
        → cond b (some (g x)) (first_of f (map g l)) ≡ Option.map g (cond b (some x) (first_of (λ x. f (g x)) l))
    go true e = refl
    go false e = e

-- the first number at a position is the lowest
pub first-is-lowest : (xs : List Stream) (s : Stream) → some_of (same s) xs ≡ true
    → first_of (here (sample xs) s) (numbers (length xs)) ≡ some (lowest xs s)
unfolding lowest first_of first_place some_of numbers
first-is-lowest [] s h = absurd (false≢true h)
first-is-lowest (x ∷ xs) s h = go (same s x) h (λ k. first-is-lowest xs s k)
  where
    go : (b : Bool) → (b || some_of (same s) xs) ≡ true
        → (some_of (same s) xs ≡ true → first_of (here (sample xs) s) (numbers (length xs)) ≡ some (first_place (same s) xs))
        → cond b (some 0) (first_of (here (sample (x ∷ xs)) s) (map suc (numbers (length xs)))) ≡ some (cond b 0 (suc (first_place (same s) xs)))
    go true k r = refl
    go false k r = first_of_map (here (sample (x ∷ xs)) s) suc (numbers (length xs)) ∙ ap (Option.map suc) (r k)
