-- A number printed from its last digit to its first: the digits that are put so far, and the number that is left.
-- Assumes nothing.
use Rattle.std.specs.Prelude.{◌≡◌, Bool, true, false, cond, List, [], ◌∷◌, ltb, set}
use Rattle.std.proofs.Math.Path.{refl}
use Rattle.std.proofs.Common.{sym, ap, ◌∙◌, arith, lt-ltb, le-ltb, ltb-true, ltb-false}
use Prim.Native.Nat.{ℕ, zero, suc, ◌+◌, ◌-◌, ◌/◌, ◌%◌, ◌^◌, ◌≤◌, ◌<◌}
use Rattle.std.proofs.Math.Nat.{pow-suc}
use Rattle.std.proofs.Math.ListN.{length}
use Rattle.rules.specs.Program.{digit_zero, digits, printed_natural}
use Rattle.samples.specs.Placed.{placed, placed_none, placed-length, placed_before, Put}

-- ---- what is left

-- the digits after a number stand after those of the number
no_fewer : (k n : ℕ) (after : List ℕ) → length after ≤ length (digits k n after)
unfolding digits
no_fewer zero n after = omega arith
no_fewer (suc k) n after = go (ltb n 10) (no_fewer k (n / 10) ((digit_zero + n % 10) ∷ after))
  where
    go : (t : Bool) → suc (length after) ≤ length (digits k (n / 10) ((digit_zero + n % 10) ∷ after)) →
        length after ≤ length (cond t ((digit_zero + n) ∷ after) (digits k (n / 10) ((digit_zero + n % 10) ∷ after)))
    go true h = omega arith
    go false h = omega arith

-- what is left of a number is still to be printed, before the digits after it
pub record Left (n left : ℕ) (after : List ℕ) : Type 0 where
  pub fuel : ℕ
  pub whole : printed_natural n ≡ digits (suc fuel) left after
  pub small : left < 10 ^ suc fuel
  pub spent : fuel + length after ≡ 19

pub left-all : (n : ℕ) → n < 2 ^ 64 → Left n n []
unfolding printed_natural
left-all n h = record { fuel = 19; whole = refl; small = omega arith; spent = refl }

module _ {n left : ℕ} {after : List ℕ} (l : Left n left after) where
  -- the last digit to be put
  pub left_end : left < 10 → printed_natural n ≡ (digit_zero + left) ∷ after
  unfolding digits
  left_end h = l.whole ∙ rw (lt-ltb left 10 h) refl

  -- one more digit
  pub left_more : 10 ≤ left → Left n (left / 10) ((digit_zero + left % 10) ∷ after)
  unfolding digits
  left_more h = go l.fuel l.whole l.small l.spent
    where
      go : (k : ℕ) → printed_natural n ≡ digits (suc k) left after → left < 10 ^ suc k → k + length after ≡ 19 →
          Left n (left / 10) ((digit_zero + left % 10) ∷ after)
      go zero w s t = absurd (omega arith)
      go (suc k) w s t = record {
        fuel = k;
        whole = w ∙ rw (le-ltb left 10 h) refl;
        small = omega (arith, pow-suc 10 (suc k));
        spent = omega arith;
      }

  -- some digit is left
  pub left_some : suc (length after) ≤ length (printed_natural n)
  left_some = go (ltb left 10) refl
    where
      go : (t : Bool) → ltb left 10 ≡ t → suc (length after) ≤ length (printed_natural n)
      go true e = omega (arith, ap length (left_end (ltb-true left 10 e)))
      go false e =
          let m = left_more (ltb-false left 10 e) in
          omega (arith, ap length m.whole, no_fewer (suc m.fuel) (left / 10) ((digit_zero + left % 10) ∷ after))

-- ---- in a buffer

-- of a number that is printed at a place, the digits after those that are left stand at their places; the next digit is put at i
pub record Printing (n at left i : ℕ) (old now : List ℕ) : Type 0 where
  pub after : List ℕ
  pub rest : Left n left after
  pub place : suc i + length after ≡ at + length (printed_natural n)
  pub content : now ≡ placed (suc i) after old

pub printing_all : (n at : ℕ) (old : List ℕ) → n < 2 ^ 64 →
    Printing n at n (at + length (printed_natural n) - 1) old old
printing_all n at old h =
    let l = left-all n h in
    record {
      after = [];
      rest = l;
      place = omega (arith, left_some l);
      content = sym (placed_none (suc (at + length (printed_natural n) - 1)) old);
    }

module _ {n at left i : ℕ} {old now : List ℕ} (room : at + length (printed_natural n) ≤ length old) (p : Printing n at left i old now) where
  pub printing_length : length now ≡ length old
  printing_length = ap length p.content ∙ placed-length (suc i) old p.after (omega (arith, p.place))

  pub printing_inside : i < length now
  printing_inside = omega (arith, p.place, printing_length)

  -- another digit stands before one that is not the first
  pub printing_above : 10 ≤ left → at < i
  printing_above h = omega (arith, p.place, left_some (left_more p.rest h))

  put_before : (x : ℕ) → set now i x ≡ placed i (x ∷ p.after) old
  put_before x =
      ap (λ (l : List ℕ). set l i x) p.content
      ∙ placed_before (suc i) old p.after (omega (arith, p.place)) i x refl

  pub printing_more : 10 ≤ left → Printing n at (left / 10) (i - 1) old (set now i (digit_zero + left % 10))
  printing_more h =
      let m = left_more p.rest h in
      let e : suc (i - 1) ≡ i = omega (arith, printing_above h) in
      record {
        after = (digit_zero + left % 10) ∷ p.after;
        rest = m;
        place = omega (arith, p.place);
        content = rw e (put_before (digit_zero + left % 10));
      }

  pub printing_end : left < 10 → Put (printed_natural n) at old (set now i (digit_zero + left)) (at + length (printed_natural n))
  printing_end h =
      let w = left_end p.rest h in
      let e : i ≡ at = omega (arith, p.place, ap length w) in
      record {
        next_is = refl;
        room = room;
        content = put_before (digit_zero + left) ∙ rw (e, w) refl;
      }
