-- A loop that writes a list over the front of another, one item a turn: after n turns it is the first n items, and then what stood there.
-- Assumes nothing.
use Rattle.std.proofs.Common.{◌≡◌, ℕ, zero, suc, ◌+◌, ◌<◌, List, [], ◌∷◌, ◌++◌, length, get_or, take, drop, set, ℤ, sym, refl, ap, ◌∙◌, le_of_suc-le-suc, not-suc-le-zero, add-one, arith, take_all}
use lib.ListN.{length-map, get_or-map}
use lib.Ieee.{Float, nan}
use Rattle.rules.specs.Lists.{written}
use Rattle.rules.specs.Door.{part}
use Rattle.door.specs.DoorAnswers.{whole_of, wholes}

set_front : {A : Type 0} (i : ℕ) (xs old : List A) (d : A) → i < length xs → i < length old →
    set (take i xs ++ drop i old) i (get_or xs i d) ≡ take (suc i) xs ++ drop (suc i) old
set_front i [] old d h k = absurd (not-suc-le-zero h)
set_front i (x ∷ xs) [] d h k = absurd (not-suc-le-zero k)
set_front zero (x ∷ xs) (y ∷ old) d h k = refl
set_front (suc i) (x ∷ xs) (y ∷ old) d h k = ap (λ (l : List _). x ∷ l) (set_front i xs old d (le_of_suc-le-suc h) (le_of_suc-le-suc k))

-- the wholes of the first i parts are written
abbrev pub Front : List Float → List ℤ → ℕ → List ℤ
Front parts old i = take i (wholes parts) ++ drop i old

pub length-wholes : (parts : List Float) → length (wholes parts) ≡ length parts
unfolding wholes
length-wholes parts = length-map parts (λ x. whole_of (part x))

pub front_more : (parts : List Float) (old : List ℤ) (i : ℕ) → i < length parts → i < length old →
    set (Front parts old i) i (whole_of (part (get_or parts i nan))) ≡ Front parts old (i + 1)
unfolding wholes
front_more parts old i h k =
    rw (add-one, ← get_or-map (λ x. whole_of (part x)) parts i nan)
    (set_front i (wholes parts) old (whole_of (part nan)) (rw (length-map parts (λ x. whole_of (part x))) h) k)

pub front_all : (parts : List Float) (old : List ℤ) (i : ℕ) → i ≡ length parts → Front parts old i ≡ written (wholes parts) old
front_all parts old i e =
    let n : i ≡ length (wholes parts) = e ∙ sym (length-wholes parts) in
    rw (take_all i (wholes parts) (omega arith), n)
