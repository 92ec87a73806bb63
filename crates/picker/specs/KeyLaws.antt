-- Keys keep the order, and the key of a rank tells the number of that rank.
-- Assumes nothing.
use Rattle.std.specs.Prelude.{◌≡◌, refl, Bool, true, false, cond, not, List, map, ℕ, suc, ◌+◌, ◌-◌, ◌^◌, ◌≤◌, ◌<◌, ℤ, pos, negsuc, ◌+ℤ◌, ◌-ℤ◌, nat_abs, T, leb, ltb, length}
use Rattle.std.proofs.Common.{sym, ap, ◌∙◌, subst, arith, lt-ltb, le-ltb, ltb-true, ltb-false, leb→le, le→leb}
use Rattle.std.proofs.Math.IntN.{sub_ℕ, +ℤ-neg_ℤ_cancel}
use Rattle.std.specs.Int.Signed.{le_z, mag}
use Rattle.std.proofs.lemmas.List.{length-map}
use Rattle.rules.specs.Picker.{ranked, rank}
use Rattle.laws_ranks.specs.Counts.{count, same_test, count_same}
use Rattle.laws_ranks.specs.Ranks.{Order, HasRank, under, upto, ranked-has-rank, ranked_in, rank_least, rank_most}
use Rattle.laws_ranks.specs.RanksAmong.{by_key, by_key_order, ranked-map}
use Rattle.laws_ranks.specs.Numbers.{natural_order, natural_rank_is, rank_is}
use Rattle.picker.specs.Keys.{key_of, number_of, Words}

sub_pos : (a b : ℕ) → b ≤ a → sub_ℕ a b ≡ pos (a - b)
sub_pos a b h = ap (λ (t : Bool). cond t (negsuc (b - suc a)) (pos (a - b))) (le-ltb a b h)

sub-neg : (a b : ℕ) → a < b → sub_ℕ a b ≡ negsuc (b - suc a)
sub-neg a b h = ap (λ (t : Bool). cond t (negsuc (b - suc a)) (pos (a - b))) (lt-ltb a b h)

pub key-sum : (x : ℤ) → mag x < 2 ^ 31 → x +ℤ pos (2 ^ 31) ≡ pos (key_of x)
unfolding key_of
key-sum (pos a) h = refl
key-sum (negsuc a) h = let e = sub_pos (2 ^ 31) (suc a) h in e ∙ ap (λ (z : ℤ). pos (nat_abs z)) (sym e)

key_pos : (a : ℕ) → key_of (pos a) ≡ a + 2 ^ 31
unfolding key_of
key_pos a = refl

key-neg : (a : ℕ) → a < 2 ^ 31 → key_of (negsuc a) ≡ 2 ^ 31 - suc a
unfolding key_of
key-neg a h = ap nat_abs (sub_pos (2 ^ 31) (suc a) h)

pub key_small : (x : ℤ) → mag x < 2 ^ 31 → key_of x < 2 ^ 32
key_small (pos a) h = omega (arith, key_pos a)
key_small (negsuc a) h = omega (arith, key-neg a h)

-- the number of a number's key is the number
pub number_of_key : (x : ℤ) → mag x < 2 ^ 31 → number_of (key_of x) ≡ x
unfolding number_of
number_of_key x h = ap (λ (z : ℤ). z -ℤ pos (2 ^ 31)) (sym (key-sum x h)) ∙ +ℤ-neg_ℤ_cancel x (pos (2 ^ 31))

-- a key's number is a 32-bit signed one
pub number_small : (k : ℕ) → k < 2 ^ 32 → mag (number_of k) < 2 ^ 31
unfolding number_of
number_small k h = go (ltb k (2 ^ 31)) refl
  where
    go : (t : Bool) → ltb k (2 ^ 31) ≡ t → mag (pos k -ℤ pos (2 ^ 31)) < 2 ^ 31
    go true e = subst (λ (z : ℤ). mag z < 2 ^ 31) (sym (sub-neg k (2 ^ 31) (ltb-true k (2 ^ 31) e))) (omega arith)
    go false e = subst (λ (z : ℤ). mag z < 2 ^ 31) (sym (sub_pos k (2 ^ 31) (ltb-false k (2 ^ 31) e))) (omega (arith, ltb-false k (2 ^ 31) e))

pub key_order : (x y : ℤ) → mag x < 2 ^ 31 → mag y < 2 ^ 31 → leb (key_of x) (key_of y) ≡ le_z x y
key_order x y h k =
    same_test
    (leb (key_of x) (key_of y))
    (le_z x y)
    (λ t. back x y h k (leb→le (key_of x) (key_of y) t))
    (λ t. le→leb (key_of x) (key_of y) (on x y h k t))
  where
    back : (x y : ℤ) → mag x < 2 ^ 31 → mag y < 2 ^ 31 → key_of x ≤ key_of y → T (le_z x y)
    back (pos a) (pos b) h k l = le→leb a b (omega (arith, key_pos a, key_pos b))
    back (pos a) (negsuc b) h k l = absurd (omega (arith, key_pos a, key-neg b k))
    back (negsuc a) (pos b) h k l = tt
    back (negsuc a) (negsuc b) h k l = le→leb b a (omega (arith, key-neg a h, key-neg b k))

    on : (x y : ℤ) → mag x < 2 ^ 31 → mag y < 2 ^ 31 → T (le_z x y) → key_of x ≤ key_of y
    on (pos a) (pos b) h k t = omega (arith, leb→le a b t, key_pos a, key_pos b)
    on (pos a) (negsuc b) h k t = absurd t
    on (negsuc a) (pos b) h k t = omega (arith, key-neg a h, key_pos b)
    on (negsuc a) (negsuc b) h k t = omega (arith, leb→le b a t, key-neg a h, key-neg b k)

-- the key of rank r among the keys is the key of the number of rank r
pub rank_of_keys : {r k : ℕ} {xs : List ℤ} → Words xs → HasRank leb r (map key_of xs) k → number_of k ≡ rank r xs
rank_of_keys {r} {k} {xs} words h = ap number_of is_key ∙ number_of_key v small ∙ rank_is ranks
  where
    v : ℤ
    v = ranked (by_key key_of leb) (pos 0) r xs

    is_key : k ≡ key_of v
    is_key = natural_rank_is (key_of (pos 0)) h ∙ ranked-map key_of leb (pos 0) r xs

    least : 1 ≤ r
    least = rank_least natural_order h

    most : r ≤ length xs
    most = subst (λ (n : ℕ). r ≤ n) (length-map xs key_of) (rank_most natural_order h)

    order : Order (by_key key_of leb)
    order = by_key_order key_of leb natural_order

    small : mag v < 2 ^ 31
    small = words v (ranked_in order (pos 0) r xs least most)

    below : count (under (by_key key_of leb) v) xs ≡ count (under le_z v) xs
    below = count_same (under (by_key key_of leb) v) (under le_z v) xs (λ x m. ap not (key_order v x small (words x m)))

    at_most : count (upto (by_key key_of leb) v) xs ≡ count (upto le_z v) xs
    at_most = count_same (upto (by_key key_of leb) v) (upto le_z v) xs (λ x m. key_order x v (words x m) small)

    ranks : HasRank le_z r xs v
    ranks =
        let g = ranked-has-rank order (pos 0) r xs least most in
        record { fewer = subst (λ (n : ℕ). n < r) below g.fewer; enough = subst (λ (n : ℕ). r ≤ n) at_most g.enough }

-- a pick among the keys of numbers tells the number of the rank
pub picked-number : {r k : ℕ} {keys : List ℕ} {xs : List ℤ}
    → Words xs
    → keys ≡ map key_of xs
    → HasRank leb r keys k
    → number_of k ≡ rank r xs
picked-number {r} {k} words e h = rank_of_keys words (subst (λ (l : List ℕ). HasRank leb r l k) e h)
