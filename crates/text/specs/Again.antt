-- What is printed can be read again: the lines of samples whose parts are within the limit are good text, and give these samples.
-- Assumes nothing.
use Rattle.std.specs.Prelude.{◌≡◌, Bool, cond, ◌&&◌, ◌||◌, leb, eqb, ℤ, pos, negsuc}
use Rattle.std.proofs.Math.Path.{refl}
use Rattle.std.proofs.Common.{sym, ap, ◌∙◌, true≢false, pow-suc}
use Rattle.std.proofs.Math.Bool.{true, false}
use Rattle.std.proofs.Math.Option.{some}
use mathlib.Core.List.{List, [], ◌∷◌, ◌++◌}
use Prim.Native.Nat.{ℕ, zero, suc, ◌+◌, ◌/◌, ◌%◌, ◌^◌, ◌≤◌, ◌<◌}
use native.Mathlib.Omega.{arith}
use borrow.Author.Tests.{ltb-true, ltb-false, leb-true, lt-ltb, eq-eqb, ne_eqb}
use Rattle.std.proofs.Math.Dec.{ltb}
use Rattle.std.proofs.Math.ListN.{length, get_or}
use Rattle.rules.specs.Lists.{some_of, all_of}
use Rattle.rules.specs.Streams.{Stream, within, beyond, limit}
use Rattle.rules.specs.Refusals.{done}
use Rattle.rules.specs.Program.{broken, longer, cut_at, newline, space, digit_zero, is_digit, decimal, unsigned, negated, not_negated_number, number, line, first_line, text, samples, most_lines, digits, printed_natural, printed_whole, printed_corners}
use Rattle.text.specs.Digits.{digit_yes, unsigned_taken, number_plain}
use Rattle.text.specs.Naturals.{left-all, left_some}
use Rattle.text.specs.Room.{natural_few, near_parts}

-- ---- a number's digits

-- digits before digits
all_digits : (k n : ℕ) (after : List ℕ) → all_of is_digit after ≡ true → all_of is_digit (digits k n after) ≡ true
unfolding digits all_of
all_digits zero n after h = h
all_digits (suc k) n after h = go (ltb n 10) refl (all_digits k (n / 10) ((digit_zero + n % 10) ∷ after))
  where
    one : (d : ℕ) → d < 10 → all_of is_digit ((digit_zero + d) ∷ after) ≡ true
    one d l = rw (digit_yes (digit_zero + d) (omega arith) (omega arith)) h

    go : (t : Bool) → ltb n 10 ≡ t →
        (all_of is_digit ((digit_zero + n % 10) ∷ after) ≡ true → all_of is_digit (digits k (n / 10) ((digit_zero + n % 10) ∷ after)) ≡ true) →
        all_of is_digit (cond t ((digit_zero + n) ∷ after) (digits k (n / 10) ((digit_zero + n % 10) ∷ after))) ≡ true
    go true e r = one n (ltb-true n 10 e)
    go false e r = r (one (n % 10) (omega arith))

-- their value is the number's, before that of the digits after them
value : (k n : ℕ) (after : List ℕ) → n < 10 ^ suc k → decimal 0 (digits (suc k) n after) ≡ decimal n after
unfolding digits decimal
value zero n after h = rw (lt-ltb n 10 (omega arith)) (ap (λ (m : ℕ). decimal m after) (omega arith))
value (suc k) n after h = go (ltb n 10) (value k (n / 10) ((digit_zero + n % 10) ∷ after) (omega (arith, pow-suc 10 (suc k))))
  where
    rest : List ℕ
    rest = (digit_zero + n % 10) ∷ after

    go : (t : Bool) → decimal 0 (digits (suc k) (n / 10) rest) ≡ decimal (n / 10) rest →
        decimal 0 (cond t ((digit_zero + n) ∷ after) (digits (suc k) (n / 10) rest)) ≡ decimal n after
    go true r = ap (λ (m : ℕ). decimal m after) (omega arith)
    go false r = r ∙ ap (λ (m : ℕ). decimal m after) (omega arith)

-- the first is no zero, unless the number is
first_digit : (k n : ℕ) (after : List ℕ) → 0 < n → n < 10 ^ suc k → get_or (digits (suc k) n after) 0 0 ≡ digit_zero → ⊥
unfolding digits
first_digit zero n after h l q =
    let e : digit_zero + n ≡ digit_zero = rw (lt-ltb n 10 (omega arith)) at q in
    omega arith
first_digit (suc k) n after h l q = go (ltb n 10) refl (first_digit k (n / 10) ((digit_zero + n % 10) ∷ after)) q
  where
    rest : List ℕ
    rest = (digit_zero + n % 10) ∷ after

    go : (t : Bool) → ltb n 10 ≡ t → (0 < n / 10 → n / 10 < 10 ^ suc k → get_or (digits (suc k) (n / 10) rest) 0 0 ≡ digit_zero → ⊥) →
        get_or (cond t ((digit_zero + n) ∷ after) (digits (suc k) (n / 10) rest)) 0 0 ≡ digit_zero → ⊥
    go true e r q = omega arith
    go false e r q = r (omega (arith, ltb-false n 10 e)) (omega (arith, pow-suc 10 (suc k))) q

natural_digits : (n : ℕ) → all_of is_digit (printed_natural n) ≡ true
unfolding printed_natural all_of
natural_digits n = all_digits 20 n [] refl

module _ (n : ℕ) (few : n < 10000000) where
  natural_some : 1 ≤ length (printed_natural n)
  natural_some = left_some (left-all n (omega arith))

  natural_leads : 1 < length (printed_natural n) → get_or (printed_natural n) 0 0 ≡ digit_zero → ⊥
  unfolding printed_natural digits
  natural_leads many e = go n few many e
    where
      go : (m : ℕ) → m < 10000000 → 1 < length (digits 20 m []) → get_or (digits 20 m []) 0 0 ≡ digit_zero → ⊥
      go zero l h e = omega arith
      go (suc m) l h e = first_digit 19 (suc m) [] (omega arith) (omega arith) e

  natural_again : unsigned (printed_natural n) ≡ some n
  unfolding printed_natural decimal
  natural_again =
      unsigned_taken (printed_natural n) natural_some (natural_few 6 n (omega arith)) natural_leads
      ∙ rw (natural_digits n) (ap some (value 19 n [] (omega arith)))

-- ---- bytes that are no space and no newline

module _ (f g : ℕ → Bool) (h : (b : ℕ) → f b ≡ true → g b ≡ true) where
  all_weaker : (bs : List ℕ) → all_of f bs ≡ true → all_of g bs ≡ true
  unfolding all_of
  all_weaker [] e = refl
  all_weaker (b ∷ bs) e = go (f b) refl e (all_weaker bs)
    where
      go : (t : Bool) → f b ≡ t → t && all_of f bs ≡ true → (all_of f bs ≡ true → all_of g bs ≡ true) → g b && all_of g bs ≡ true
      go true p e r = rw (h b p) (r e)
      go false p e r = absurd (true≢false (sym e))

all_append : (f : ℕ → Bool) (xs ys : List ℕ) → all_of f xs ≡ true → all_of f ys ≡ true → all_of f (xs ++ ys) ≡ true
unfolding all_of
all_append f [] ys e h = h
all_append f (x ∷ xs) ys e h = go (f x) e (all_append f xs ys)
  where
    go : (t : Bool) → t && all_of f xs ≡ true → (all_of f xs ≡ true → all_of f ys ≡ true → all_of f (xs ++ ys) ≡ true) → t && all_of f (xs ++ ys) ≡ true
    go true e r = r e h
    go false e r = absurd (true≢false (sym e))

-- every byte is above this one
abbrev above : ℕ → List ℕ → Type 0
above x bs = all_of (λ b. ltb x b) bs ≡ true

digit_above : (b : ℕ) → is_digit b ≡ true → ltb space b ≡ true
digit_above b = go (leb 48 b) refl
  where
    go : (t : Bool) → leb 48 b ≡ t → t && leb b 57 ≡ true → ltb space b ≡ true
    go true e h = lt-ltb space b (omega (arith, leb-true 48 b e))
    go false e h = absurd (true≢false (sym h))

whole_above : (z : ℤ) → above space (printed_whole z)
unfolding printed_whole all_of
whole_above (pos n) = all_weaker is_digit (λ b. ltb space b) digit_above (printed_natural n) (natural_digits n)
whole_above (negsuc n) = all_weaker is_digit (λ b. ltb space b) digit_above (printed_natural (suc n)) (natural_digits (suc n))

-- such bytes are cut off by the byte below them
cut-after : (x : ℕ) (a b : List ℕ) → above x a → cut_at x (a ++ (x ∷ b)) ≡ broken a b
unfolding cut_at all_of
cut-after x [] b h = rw (eq-eqb x x refl) refl
cut-after x (c ∷ a) b h = go (ltb x c) refl h (cut-after x a b)
  where
    go : (t : Bool) → ltb x c ≡ t → t && all_of (λ b. ltb x b) a ≡ true → (above x a → cut_at x (a ++ (x ∷ b)) ≡ broken a b) →
        cond (eqb c x) (broken [] (a ++ (x ∷ b))) (longer c (cut_at x (a ++ (x ∷ b)))) ≡ broken (c ∷ a) b
    go true e h r = rw (ne_eqb c x (λ q. omega (arith, ltb-true x c e, q)), r h) refl
    go false e h r = absurd (true≢false (sym h))

-- ---- a whole number, a line

first_is_digit : (bs : List ℕ) → all_of is_digit bs ≡ true → 0 < length bs → 48 ≤ get_or bs 0 0
unfolding all_of
first_is_digit [] e h = absurd (omega arith)
first_is_digit (b ∷ bs) e h = go (leb 48 b) refl e
  where
    go : (t : Bool) → leb 48 b ≡ t → (t && leb b 57) && all_of is_digit bs ≡ true → 48 ≤ b
    go true q e = leb-true 48 b q
    go false q e = absurd (true≢false (sym e))

whole_again : (z : ℤ) → within z ≡ true → number (printed_whole z) ≡ some z
unfolding printed_whole within number
whole_again (pos n) h =
    let few : n < 10000000 = omega (arith, leb-true n limit h) in
    number_plain (printed_natural n) (natural_some n few)
    (λ e. omega (arith, first_is_digit (printed_natural n) (natural_digits n) (natural_some n few), e))
    ∙ ap not_negated_number (natural_again n few)
whole_again (negsuc n) h = ap negated (natural_again (suc n) (omega (arith, leb-true (suc n) limit h)))

module _ (p : Stream) where
  printed-line : List ℕ
  printed-line = printed_whole p.east ++ (space ∷ printed_whole p.north)

  line_again : beyond p ≡ false → line printed-line ≡ some p
  unfolding printed-line line
  line_again h =
      let near = near_parts p h in
      rw (
        cut-after space (printed_whole p.east) (printed_whole p.north) (whole_above p.east),
        whole_again p.east near.0,
        whole_again p.north near.1,
      )
      refl

  line-above : above newline printed-line
  unfolding printed-line all_of
  line-above =
      let all = all_weaker (λ b. ltb space b) (λ b. ltb newline b) (λ b e. lt-ltb newline b (omega (arith, ltb-true space b e))) in
      all_append (λ b. ltb newline b) (printed_whole p.east) (space ∷ printed_whole p.north)
      (all (printed_whole p.east) (whole_above p.east)) (all (printed_whole p.north) (whole_above p.north))

-- ---- all lines

first_again : (l rest : List ℕ) → above newline l → first_line (l ++ (newline ∷ rest)) ≡ some (broken l rest)
first_again [] rest h = ap some (cut-after newline [] rest h)
first_again (b ∷ l) rest h = ap some (cut-after newline (b ∷ l) rest h)

lines_again : (room i : ℕ) (xs : List Stream) → length xs ≤ room → some_of beyond xs ≡ false → text room i (first_line (printed_corners xs)) ≡ done xs
unfolding text printed_corners printed-line some_of
lines_again zero i [] h g = refl
lines_again (suc room) i [] h g = refl
lines_again zero i (p ∷ xs) h g = absurd (omega arith)
lines_again (suc room) i (p ∷ xs) h g = go (beyond p) refl g (lines_again room (suc i) xs (omega arith))
  where
    go : (t : Bool) → beyond p ≡ t → t || some_of beyond xs ≡ false →
        (some_of beyond xs ≡ false → text room (suc i) (first_line (printed_corners xs)) ≡ done xs) →
        text (suc room) i (first_line (printed-line p ++ (newline ∷ printed_corners xs))) ≡ done (p ∷ xs)
    go true e g r = absurd (true≢false g)
    go false e g r = rw (first_again (printed-line p) (printed_corners xs) (line-above p), line_again p e, r g) refl

pub samples_again : (xs : List Stream) → length xs ≤ most_lines → some_of beyond xs ≡ false → samples (printed_corners xs) ≡ done xs
unfolding samples
samples_again xs h g = lines_again most_lines 1 xs h g
