-- Digits read one after the other: what the digits from a place on give after a value already read, and when they are taken as a number.
-- Assumes nothing.
use Rattle.std.specs.Prelude.{◌≡◌, refl, Bool, true, false, cond, not, ◌&&◌, List, [], ◌∷◌, ℕ, ◌+◌, ◌-◌, ◌*◌, ◌^◌, ◌≤◌, ◌<◌, leb, eqb, length, get_or, take, drop}
use lib.Pointwise.{pointwise}
use Rattle.std.proofs.Math.Option.{Option, none, some}
use Rattle.std.proofs.Common.{sym, true≢false, pow-suc, add-one, arith, lit<, drop-cons}
use Rattle.std.proofs.Math.Nat.{pow-le-pow_right}
use borrow.Author.Tests.{le-leb, lt-leb, eq-eqb, ne_eqb}
use Rattle.rules.specs.Lists.{all_of}
use Rattle.rules.specs.Program.{is_digit, digit_zero, decimal, leading_zero, unsigned, minus, negated, not_negated_number, number}

abbrev pub digits_after : ℕ → List ℕ → Option ℕ
digits_after n bs = cond (all_of is_digit bs) (some (decimal n bs)) none

-- ---- one digit

pub digit_yes : (b : ℕ) → 48 ≤ b → b ≤ 57 → is_digit b ≡ true
digit_yes b low high = simp (le-leb 48 b low, le-leb b 57 high) refl

pub digit_low : (b : ℕ) → b < 48 → is_digit b ≡ false
digit_low b h = simp (lt-leb 48 b h) refl

pub digit_high : (b : ℕ) → 57 < b → is_digit b ≡ false
digit_high b h = simp (le-leb 48 b (omega arith), lt-leb b 57 h) refl

module _ (bs : List ℕ) (i : ℕ) (inside : i < length bs) (n : ℕ) where
  pub digit_here : is_digit (get_or bs i 0) ≡ true →
      digits_after n (drop i bs) ≡ digits_after (n * 10 + (get_or bs i 0 - digit_zero)) (drop (i + 1) bs)
  unfolding all_of decimal
  digit_here e = rw (drop-cons bs i 0 inside, add-one) (simp e)

  pub digit_bad : is_digit (get_or bs i 0) ≡ false → digits_after n (drop i bs) ≡ none
  unfolding all_of decimal
  digit_bad e = rw (drop-cons bs i 0 inside) (simp e)

-- so many digits stay below the power of ten
pub ten_more : (i n d : ℕ) → n < 10 ^ i → d < 10 → n * 10 + d < 10 ^ (i + 1)
ten_more i n d h g = rw (add-one, pow-suc) (omega arith)

pub at_most_seven : (i : ℕ) → i ≤ 7 → 10 ^ i ≤ 10000000
at_most_seven i h = pow-le-pow_right (lit< tt) h

-- ---- which digits are taken

second_fails : (a c d : Bool) (v : Option ℕ) → cond (a && false && c && d) v none ≡ none
second_fails true c d v = refl
second_fails false c d v = refl

third_fails : (a b d : Bool) (v : Option ℕ) → cond (a && b && false && d) v none ≡ none
third_fails true true d v = refl
third_fails true false d v = refl
third_fails false b d v = refl

fourth_fails : (a b c : Bool) (v : Option ℕ) → cond (a && b && c && false) v none ≡ none
fourth_fails true true true v = refl
fourth_fails true true false v = refl
fourth_fails true false c v = refl
fourth_fails false b c v = refl

first_decides : (a : Bool) (v : Option ℕ) → cond (a && true && true && true) v none ≡ cond a v none
first_decides true v = refl
first_decides false v = refl

leading : (bs : List ℕ) → 1 < length bs → get_or bs 0 0 ≡ digit_zero → leading_zero bs ≡ true
leading [] h e = absurd (omega arith)
leading (b ∷ []) h e = absurd (omega arith)
leading (b ∷ c ∷ bs) h e = eq-eqb b digit_zero e

not_leading : (bs : List ℕ) → (1 < length bs → get_or bs 0 0 ≡ digit_zero → ⊥) → leading_zero bs ≡ false
not_leading [] h = refl
not_leading (b ∷ []) h = refl
not_leading (b ∷ c ∷ bs) h = ne_eqb b digit_zero (h (omega arith))

module _ (bs : List ℕ) where
  pub unsigned_empty : length bs ≡ 0 → unsigned bs ≡ none
  unfolding unsigned
  unsigned_empty h =
      rw (lt-leb 1 (length bs) (omega arith))
      (second_fails (all_of is_digit bs) (leb (length bs) 7) (not (leading_zero bs)) (some (decimal 0 bs)))

  pub unsigned_long : 7 < length bs → unsigned bs ≡ none
  unfolding unsigned
  unsigned_long h = rw (lt-leb (length bs) 7 h) (third_fails (all_of is_digit bs) (leb 1 (length bs)) (not (leading_zero bs)) (some (decimal 0 bs)))

  pub unsigned_leading : 1 < length bs → get_or bs 0 0 ≡ digit_zero → unsigned bs ≡ none
  unfolding unsigned
  unsigned_leading h e = rw (leading bs h e) (fourth_fails (all_of is_digit bs) (leb 1 (length bs)) (leb (length bs) 7) (some (decimal 0 bs)))

  pub unsigned_taken : 1 ≤ length bs → length bs ≤ 7 → (1 < length bs → get_or bs 0 0 ≡ digit_zero → ⊥) → unsigned bs ≡ digits_after 0 bs
  unfolding unsigned
  unsigned_taken l m h =
      rw (le-leb 1 (length bs) l, le-leb (length bs) 7 m, not_leading bs h) (first_decides (all_of is_digit bs) (some (decimal 0 bs)))

-- ---- a number

pub number_empty : (bs : List ℕ) → length bs ≡ 0 → number bs ≡ none
unfolding number
number_empty [] h = refl
number_empty (b ∷ bs) h = absurd (omega arith)

pub number-minus : (bs : List ℕ) → 0 < length bs → get_or bs 0 0 ≡ minus → number bs ≡ negated (unsigned (drop 1 bs))
unfolding number
number-minus [] h e = absurd (omega arith)
number-minus (b ∷ bs) h e = rw (eq-eqb b minus e) refl

-- a minus stripped off, where there is one
pub number_stripped : (bs digits : List ℕ) → pointwise eqb (take 1 bs) (minus ∷ []) ≡ true → digits ≡ drop 1 bs → number bs ≡ negated (unsigned digits)
unfolding number
number_stripped [] digits p q = absurd (true≢false (sym p))
number_stripped (b ∷ bs) digits p q = go (eqb b minus) p
  where
    go : (t : Bool) → t && true ≡ true → cond t (negated (unsigned bs)) (not_negated_number (unsigned (b ∷ bs))) ≡ negated (unsigned digits)
    go true e = rw q refl
    go false e = absurd (true≢false (sym e))

pub number_unstripped : (bs : List ℕ) → pointwise eqb (take 1 bs) (minus ∷ []) ≡ false → number bs ≡ not_negated_number (unsigned bs)
unfolding number
number_unstripped [] p = rw (unsigned_empty [] refl) refl
number_unstripped (b ∷ bs) p = go (eqb b minus) p
  where
    go : (t : Bool) → t && true ≡ false → cond t (negated (unsigned bs)) (not_negated_number (unsigned (b ∷ bs))) ≡ not_negated_number (unsigned (b ∷ bs))
    go true e = absurd (true≢false e)
    go false e = refl

pub number_plain : (bs : List ℕ) → 0 < length bs → (get_or bs 0 0 ≡ minus → ⊥) → number bs ≡ not_negated_number (unsigned bs)
unfolding number
number_plain [] h e = absurd (omega arith)
number_plain (b ∷ bs) h e = rw (ne_eqb b minus e) refl
