-- The middle of five keys by the lesser and the greater of two, and the middles written behind the keys.
-- Assumes nothing.
use mathlib.Core.Path.{◌≡◌, refl, sym, ap, ap₂, ◌∙◌, subst}
use mathlib.Core.Bool.{Bool, true, false, not}
use mathlib.Core.List.{List, [], ◌∷◌, ◌++◌, map, map-append}
use Prim.Native.Nat.{ℕ, ◌+◌, ◌/◌, ◌≤◌, ◌<◌, min, max}
use native.Mathlib.Numerals.{add-one}
use native.Mathlib.Omega.{arith}
use borrow.Author.Tests.{leb-true, leb-false}
use lib.Dec.{T, leb, le→leb, not_T}
use lib.ListN.{length, take, set}
use lib.Seq.{take_all, take-suc-set}
use Rattle.laws_ranks.specs.Counts.{bit, bit_le, bit_yes, bit_no, count}
use Rattle.laws_ranks.specs.Ranks.{HasRank, under, upto, rank_of_same_items}
use Rattle.laws_ranks.specs.Numbers.{natural_order, natural_rank_is}
use Rattle.laws_ranks.specs.Middles.{column, middle, middles, middle_of_middles, fives, fives_more, length-middles}

-- ---- the middle of five

-- the lesser and the greater of two are the two
pub two-same : (f : ℕ → Bool) (a b : ℕ) → bit (f (min a b)) + bit (f (max a b)) ≡ bit (f a) + bit (f b)
two-same f a b = go (leb a b) refl
  where
    go : (t : Bool) → leb a b ≡ t → bit (f (min a b)) + bit (f (max a b)) ≡ bit (f a) + bit (f b)
    go true e =
        let h = leb-true a b e in
        let low : min a b ≡ a = omega arith in
        let high : max a b ≡ b = omega arith in
        rw (low, high)
    go false e =
        let h = leb-false a b e in
        let low : min a b ≡ b = omega arith in
        let high : max a b ≡ a = omega arith in
        rw (low, high) (omega arith)

at_most_one : (b : Bool) → bit b ≤ 1
at_most_one b = bit_le b true (λ t. tt)

upto_yes : {x v : ℕ} → x ≤ v → bit (upto leb v x) ≡ 1
upto_yes {x} {v} h = bit_yes (leb x v) (le→leb x v h)

under_no : {x v : ℕ} → v ≤ x → bit (under leb v x) ≡ 0
under_no {x} {v} h = bit_no (under leb v x) (not_T (under leb v x) (λ t. no_both (leb v x) (le→leb v x h) t))
  where
    no_both : (b : Bool) → T b → T (not b) → ⊥
    no_both true p q = q
    no_both false p q = p

-- three of five keys are at most v, and three at least
three-three : (p q v r s : ℕ) → p ≤ v → q ≤ v → v ≤ r → v ≤ s → HasRank leb 3 (p ∷ q ∷ v ∷ r ∷ s ∷ []) v
unfolding count
three-three p q v r s a b c d =
    record {
      fewer =
          omega (arith, at_most_one (under leb v p), at_most_one (under leb v q), under_no {x = v} {v = v} (omega arith), under_no c, under_no d);
      enough = omega (arith, upto_yes a, upto_yes b, upto_yes {x = v} {v = v} (omega arith));
    }

-- the middle of four keys in rising order and a fifth
five_rank : (s x y l e : ℕ) → s ≤ x → x ≤ y → y ≤ l → HasRank leb 3 (s ∷ x ∷ y ∷ l ∷ e ∷ []) (max x (min y e))
unfolding count
five_rank s x y l e a b c = go (leb e x) refl (leb e y) refl
  where
    go : (t : Bool) → leb e x ≡ t → (u : Bool) → leb e y ≡ u → HasRank leb 3 (s ∷ x ∷ y ∷ l ∷ e ∷ []) (max x (min y e))
    go true i u j =
        let h = leb-true e x i in
        let is : x ≡ max x (min y e) = omega arith in
        subst (HasRank leb 3 (s ∷ x ∷ y ∷ l ∷ e ∷ [])) is
        (rank_of_same_items natural_order (record { counts = λ f. omega arith }) (three-three s e x y l a h b (omega arith)))
    go false i true j =
        let h = leb-false e x i in
        let k = leb-true e y j in
        let is : e ≡ max x (min y e) = omega arith in
        subst (HasRank leb 3 (s ∷ x ∷ y ∷ l ∷ e ∷ [])) is
        (rank_of_same_items natural_order (record { counts = λ f. omega arith }) (three-three s x e y l (omega arith) (omega arith) k (omega arith)))
    go false i false j =
        let h = leb-false e y j in
        let is : y ≡ max x (min y e) = omega arith in
        subst (HasRank leb 3 (s ∷ x ∷ y ∷ l ∷ e ∷ [])) is (three-three s x y l e (omega arith) b c (omega arith))

in_pair : (a b : ℕ) → min a b ≤ max a b
in_pair a b = omega arith

pairs_low : {a b c d : ℕ} → a ≤ b → c ≤ d → min a c ≤ min b d
pairs_low h k = omega arith

pairs_high : {a b c d : ℕ} → a ≤ b → c ≤ d → max a c ≤ max b d
pairs_high h k = omega arith

below_both : {s f g : ℕ} → s ≤ f → s ≤ g → s ≤ min f g
below_both h k = omega arith

above-both : {f g l : ℕ} → f ≤ l → g ≤ l → max f g ≤ l
above-both h k = omega arith

-- the middle, from f and g, the second and the third of the first four
middle_from : (a b c d e f g : ℕ)
    → f ≡ max (min a b) (min c d)
    → g ≡ min (max a b) (max c d)
    → HasRank leb 3 (a ∷ b ∷ c ∷ d ∷ e ∷ []) (max (min f g) (min (max f g) e))
unfolding count
middle_from a b c d e f g is_f is-g =
    rank_of_same_items
    natural_order
    (record { counts = same })
    (five_rank
    s
    (min f g)
    (max f g)
    l
    e
    (below_both
    (subst (λ (n : ℕ). s ≤ n) (sym is_f) (in_pair (min a b) (min c d)))
    (subst (λ (n : ℕ). s ≤ n) (sym is-g) (pairs_low (in_pair a b) (in_pair c d))))
    (in_pair f g)
    (above-both
    (subst (λ (n : ℕ). n ≤ l) (sym is_f) (pairs_high (in_pair a b) (in_pair c d)))
    (subst (λ (n : ℕ). n ≤ l) (sym is-g) (in_pair (max a b) (max c d)))))
  where
    s : ℕ
    s = min (min a b) (min c d)

    l : ℕ
    l = max (max a b) (max c d)

    same : (t : ℕ → Bool) → count t (s ∷ min f g ∷ max f g ∷ l ∷ e ∷ []) ≡ count t (a ∷ b ∷ c ∷ d ∷ e ∷ [])
    same t =
        omega (
          arith,
          ap (λ (n : ℕ). bit (t n)) is_f,
          ap (λ (n : ℕ). bit (t n)) is-g,
          two-same t a b,
          two-same t c d,
          two-same t (min a b) (min c d),
          two-same t (max a b) (max c d),
          two-same t f g,
        )

pub middle_of_five : (a b c d e : ℕ)
    → max (min (max (min a b) (min c d)) (min (max a b) (max c d))) (min (max (max (min a b) (min c d)) (min (max a b) (max c d))) e)
    ≡ middle leb 0 (a ∷ b ∷ c ∷ d ∷ e ∷ [])
unfolding middle
middle_of_five a b c d e =
    natural_rank_is 0 (middle_from a b c d e (max (min a b) (min c d)) (min (max a b) (max c d)) refl refl)

-- ---- the middles of all groups

-- one group more
pub grouping_more : (keys now : List ℕ) (g i v : ℕ)
    → i < length now
    → v ≡ middle leb 0 (column 0 g keys i)
    → take i now ≡ map (middle leb 0) (fives 0 g keys i)
    → take (i + 1) (set now i v) ≡ map (middle leb 0) (fives 0 g keys (i + 1))
grouping_more keys now g i v h e t =
    ap (λ (n : ℕ). take n (set now i v)) (add-one i)
    ∙ take-suc-set now i v h
    ∙ ap₂ (λ (l : List ℕ) (m : ℕ). l ++ (m ∷ [])) t e
    ∙ sym (map-append (middle leb 0) (fives 0 g keys i) (column 0 g keys i ∷ []))
    ∙ ap (map (middle leb 0)) (sym (fives_more 0 g keys i) ∙ ap (fives 0 g keys) (sym (add-one i)))

pub grouping_all : (keys now : List ℕ) (g i : ℕ)
    → g ≡ length keys / 5
    → length now ≡ g
    → i ≡ g
    → take i now ≡ map (middle leb 0) (fives 0 g keys i)
    → now ≡ middles leb 0 keys
unfolding middles
grouping_all keys now g i e h k t = sym (take_all g now (omega arith)) ∙ (rw k at t) ∙ ap (λ (n : ℕ). map (middle leb 0) (fives 0 n keys n)) e

-- the key picked at the middle rank among the middles is the middle of the middles
pub picked-middle : (keys : List ℕ) {p r : ℕ}
    → r ≡ (length keys / 5 + 1) / 2
    → HasRank leb r (middles leb 0 keys) p
    → p ≡ middle_of_middles leb 0 keys
unfolding middle_of_middles middle
picked-middle keys {p} half h =
    natural_rank_is 0
    (subst (λ (k : ℕ). HasRank leb k (middles leb 0 keys) p) (half ∙ ap (λ (n : ℕ). (n + 1) / 2) (sym (length-middles natural_order 0 keys))) h)
