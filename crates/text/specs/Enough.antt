-- The first 9,217 bytes of a text decide what the program writes, whatever follows them: 512 good lines take at most 18 bytes each with their newlines,
-- so byte 9,217 belongs to a 513th line; and a line that has no newline within 18 bytes is bad whatever follows.
-- Assumes nothing.
use Rattle.std.specs.Prelude.{◌≡◌, Bool, eqb, ℤ, take, drop}
use Rattle.std.proofs.Math.Path.{refl, ap}
use Rattle.std.proofs.Common.{sym, ap₂, ◌∙◌, le_refl, arith, length-take, length-drop, take-take, take-add, drop_at, length-take-le}
use Rattle.std.proofs.Math.Bool.{true, false, cond}
use Rattle.std.proofs.Math.Option.{Option, none, some}
use mathlib.Core.List.{List, [], ◌∷◌}
use Prim.Native.Nat.{ℕ, zero, suc, ◌+◌, ◌-◌, ◌*◌, ◌≤◌, ◌<◌}
use Rattle.std.proofs.Math.Decide.{dec_lt}
use Rattle.std.proofs.Math.ListN.{length}
use Rattle.std.proofs.Math.Seq.{take-nil}
use Rattle.rules.specs.Lists.{first_place}
use Rattle.rules.specs.Streams.{Stream}
use Rattle.rules.specs.Refusals.{Answer}
use Rattle.rules.specs.Program.{unbroken, broken, cut_at, space, newline, negated, not_negated_number, number, both, parts, line, with_sample, first_line, text, samples, ring_of_text, printed, program}
use Rattle.text.specs.Cuts.{is, first-place-within, cut_found, cut_none}
use Rattle.text.specs.Digits.{unsigned_long}
use Rattle.text.specs.TextAnswers.{Next, bad_line, good_line, before_rest, next_line}
use Rattle.text.specs.TextLines.{text_bad, text_good}

-- ---- a good line is short

number_long : (bs : List ℕ) → 8 < length bs → number bs ≡ none
unfolding number
number_long [] h = absurd (omega arith)
number_long (b ∷ bs) h = rw (unsigned_long bs (omega arith), unsigned_long (b ∷ bs) (omega arith)) (go (eqb b 45))
  where
    go : (t : Bool) → cond t (negated none) (not_negated_number none) ≡ none
    go true = refl
    go false = refl

both_none : (e : Option ℤ) → both e none ≡ none
both_none none = refl
both_none (some z) = refl

pub line_long : (bs : List ℕ) → 17 < length bs → line bs ≡ none
unfolding line
line_long bs h = go (dec_lt k (length bs))
  where
    k : ℕ
    k = first_place (is space) bs

    east-or-north : Dec (8 < k) → k < length bs → both (number (take k bs)) (number (drop (suc k) bs)) ≡ none
    east-or-north (yes e) f = rw (number_long (take k bs) (omega (arith, length-take k bs))) refl
    east-or-north (no e) f = rw (number_long (drop (suc k) bs) (omega (arith, length-drop (suc k) bs))) (both_none (number (take k bs)))

    go : Dec (k < length bs) → parts (cut_at space bs) ≡ none
    go (yes f) = rw (cut_found space bs f) (east-or-north (dec_lt 8 k) f)
    go (no f) = rw (cut_none space bs (omega (arith, first-place-within (is space) bs))) refl

-- ---- the front of a text

module _ {A : Type 0} (test : A → Bool) where
  first_in_front : (n : ℕ) (xs : List A) → first_place test xs < n → first_place test (take n xs) ≡ first_place test xs
  unfolding first_place
  first_in_front zero xs h = absurd (omega arith)
  first_in_front (suc n) [] h = refl
  first_in_front (suc n) (x ∷ xs) h = go (test x) h (first_in_front n xs)
    where
      go : (t : Bool) → cond t zero (suc (first_place test xs)) < suc n →
          (first_place test xs < n → first_place test (take n xs) ≡ first_place test xs) →
          cond t zero (suc (first_place test (take n xs))) ≡ cond t zero (suc (first_place test xs))
      go true h r = refl
      go false h r = ap suc (r (omega arith))

  first_not_in_front : (n : ℕ) (xs : List A) → n ≤ first_place test xs → first_place test (take n xs) ≡ length (take n xs)
  unfolding first_place
  first_not_in_front zero xs h = refl
  first_not_in_front (suc n) [] h = refl
  first_not_in_front (suc n) (x ∷ xs) h = go (test x) h (first_not_in_front n xs)
    where
      go : (t : Bool) → suc n ≤ cond t zero (suc (first_place test xs)) →
          (n ≤ first_place test xs → first_place test (take n xs) ≡ length (take n xs)) →
          cond t zero (suc (first_place test (take n xs))) ≡ suc (length (take n xs))
      go true h r = absurd (omega arith)
      go false h r = ap suc (r (omega arith))

-- the first place of a byte
abbrev first : ℕ → List ℕ → ℕ
first x bs = first_place (is x) bs

-- a front that reaches past the byte is cut where the text is
module _ (x n : ℕ) (bs : List ℕ) where
  cut_front : first x bs < n → first x bs < length bs →
      cut_at x (take n bs) ≡ broken (take (first x bs) bs) (take (n - suc (first x bs)) (drop (suc (first x bs)) bs))
  cut_front h g =
      let k = suc (first x bs) in
      let e : first_place (is x) (take n bs) ≡ first x bs = first_in_front (is x) n bs h in
      let j : n ≡ k + (n - k) = omega arith in
      cut_found x (take n bs) (omega (arith, length-take n bs))
      ∙ ap₂ broken (rw e (take-take (first x bs) n bs (omega arith)))
      (rw e
      (ap (drop k) (ap (λ (m : ℕ). take m bs) j ∙ take-add k (n - k) bs)
      ∙ drop_at (take k bs) (take (n - k) (drop k bs)) k (length-take-le k bs (omega arith))))

  -- one that does not is not cut
  uncut_front : n ≤ first x bs → cut_at x (take n bs) ≡ unbroken (take n bs)
  uncut_front h = cut_none x (take n bs) (first_not_in_front (is x) n bs h)

  uncut_whole : first x bs ≡ length bs → first x bs < n → cut_at x (take n bs) ≡ unbroken (take n bs)
  uncut_whole h g = cut_none x (take n bs) (omega (arith, first_in_front (is x) n bs g, length-take n bs))

-- ---- the first line of a front

-- where a text's first line ends
abbrev end : List ℕ → ℕ
end bs = first newline bs

module _ (n : ℕ) (bs : List ℕ) where
  front_bad : next_line (cut_at newline bs) ≡ bad_line → next_line (cut_at newline (take n bs)) ≡ bad_line
  front_bad e = go (dec_lt (end bs) n) (dec_lt (end bs) (length bs))
    where
      same : (o : Option Stream) (rest rest' : List ℕ) → before_rest o rest ≡ bad_line → before_rest o rest' ≡ bad_line
      same none rest rest' e = refl
      same (some s) rest rest' e = let z : ◌≡◌ {A = ℕ} 0 1 = cc in absurd (omega arith)

      go : Dec (end bs < n) → Dec (end bs < length bs) → next_line (cut_at newline (take n bs)) ≡ bad_line
      go (yes f) (yes g) =
          rw (cut_front newline n bs f g)
          (same (line (take (end bs) bs)) (drop (suc (end bs)) bs) (take (n - suc (end bs)) (drop (suc (end bs)) bs))
          (rw (cut_found newline bs g) at e))
      go (yes f) (no g) = rw (uncut_whole newline n bs (omega (arith, first-place-within (is newline) bs)) f) refl
      go (no f) g = rw (uncut_front newline n bs (omega arith)) refl

  -- what is left of the front after a good line
  front_good : (s : Stream) (rest : List ℕ) → 18 ≤ n → next_line (cut_at newline bs) ≡ good_line s rest →
      (m : ℕ) × (n ≤ m + 18) × (next_line (cut_at newline (take n bs)) ≡ good_line s (take m rest))
  front_good s rest h e = go (dec_lt (end bs) (length bs))
    where
      Left : Type 0
      Left = (m : ℕ) × (n ≤ m + 18) × (next_line (cut_at newline (take n bs)) ≡ good_line s (take m rest))

      short : (t : Stream) → line (take (end bs) bs) ≡ some t → end bs < length bs → end bs < 18
      short t q g = near (dec_lt (end bs) 18)
        where
          near : Dec (end bs < 18) → end bs < 18
          near (yes y) = y
          near (no y) =
              let l = line_long (take (end bs) bs) (omega (arith, length-take (end bs) bs)) in
              let z : ◌≡◌ {A = ℕ} 0 1 = cc in
              absurd (omega arith)

      found : (o : Option Stream) → line (take (end bs) bs) ≡ o → end bs < length bs →
          before_rest o (drop (suc (end bs)) bs) ≡ good_line s rest → Left
      found none q g e = let z : ◌≡◌ {A = ℕ} 0 1 = cc in absurd (omega arith)
      found (some t) q g e =
          let p : t ≡ s = cc in
          let r : drop (suc (end bs)) bs ≡ rest = cc in (
            n - suc (end bs),
            omega (arith, short t q g),
            rw (cut_front newline n bs (omega (arith, short t q g)) g, q, p, r) refl,
          )

      go : Dec (end bs < length bs) → Left
      go (yes g) = found (line (take (end bs) bs)) refl g (rw (cut_found newline bs g) at e)
      go (no g) =
          let f = cut_none newline bs (omega (arith, first-place-within (is newline) bs)) in
          let b : bad_line ≡ good_line s rest = rw f at e in
          let z : ◌≡◌ {A = ℕ} 0 1 = cc in
          absurd (omega arith)

-- ---- so many lines, and one byte more

no_room : (i n : ℕ) (bs : List ℕ) → 0 < n → text 0 i (first_line (take n bs)) ≡ text 0 i (first_line bs)
unfolding text
no_room i n [] h = rw (take-nil n) refl
no_room i zero (b ∷ bs) h = absurd (omega arith)
no_room i (suc n) (b ∷ bs) h = refl

-- a line, where the front of what follows is enough
one_line : (room i n : ℕ) (bs : List ℕ) → suc room * 18 < n →
    ((m : ℕ) (rest : List ℕ) → room * 18 < m → text room (suc i) (first_line (take m rest)) ≡ text room (suc i) (first_line rest)) →
    text (suc room) i (first_line (take n bs)) ≡ text (suc room) i (first_line bs)
one_line room i n [] h r = rw (take-nil n) refl
one_line room i zero (b ∷ bs) h r = absurd (omega arith)
one_line room i (suc n) (b ∷ bs) h r = go (next_line (cut_at newline (b ∷ bs))) refl
  where
    go : (y : Next) → next_line (cut_at newline (b ∷ bs)) ≡ y →
        text (suc room) i (some (cut_at newline (b ∷ take n bs))) ≡ text (suc room) i (some (cut_at newline (b ∷ bs)))
    go bad_line e =
        text_bad room i (cut_at newline (b ∷ take n bs)) (front_bad (suc n) (b ∷ bs) e) ∙ sym (text_bad room i (cut_at newline (b ∷ bs)) e)
    go (good_line s rest) e =
        let f = front_good (suc n) (b ∷ bs) s rest (omega arith) e in
        text_good room i (cut_at newline (b ∷ take n bs)) s (take f.0 rest) f.2
        ∙ ap (with_sample (some s) i) (r f.0 rest (omega (arith, f.1)))
        ∙ sym (text_good room i (cut_at newline (b ∷ bs)) s rest e)

text_enough : (room i n : ℕ) (bs : List ℕ) → room * 18 < n → text room i (first_line (take n bs)) ≡ text room i (first_line bs)
text_enough zero i n bs h = no_room i n bs (omega arith)
text_enough (suc room) i n bs h = one_line room i n bs h (λ m rest. text_enough room (suc i) m rest)

pub samples_enough : (n : ℕ) (bs : List ℕ) → 9217 ≤ n → samples (take n bs) ≡ samples bs
unfolding samples
samples_enough n bs h = text_enough 512 1 n bs (omega arith)

pub enough : (bs : List ℕ) → program bs ≡ program (take 9217 bs)
unfolding program
enough bs = ap (λ (a : Answer (List Stream)). printed (ring_of_text a)) (sym (samples_enough 9217 bs (le_refl 9217)))
