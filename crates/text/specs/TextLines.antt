-- A text read line by line: what the lines read so far gave, and what that says of the whole text.
-- Assumes nothing.
use Rattle.std.proofs.Math.Path.{◌≡◌, refl}
use Rattle.std.proofs.Common.{sym, ap, ◌∙◌, append_assoc, append-nil, add-one, arith, length-append, length-drop, drop-drop, ltb-true, ltb-false}
use Rattle.std.specs.Prelude.{true, ◌||◌, List, [], ◌∷◌, ◌++◌, ℕ, zero, suc, ◌+◌, ◌-◌, ◌≤◌, ◌<◌, Bool, false, ltb, ℤ, length, take, drop}
use Rattle.std.proofs.Math.Option.{Option, none, some}
use borrow.Author.Tests.{le-ltb}
use Rattle.rules.specs.Lists.{first_place}
use Rattle.rules.specs.Streams.{Stream}
use Rattle.rules.specs.Refusals.{Answer, refused, done}
use Rattle.rules.specs.Entries.{counted}
use Rattle.rules.specs.Program.{Cut, unbroken, broken, cut_at, newline, line, most_lines, with_sample, first_line, text, samples}
use Rattle.text.specs.Cuts.{is, cut_found, cut_none, first-place-within}
use Rattle.text.specs.TextAnswers.{with_room, samples_answer, bad_line, good_line, before_rest, next_line, Fit}

-- what a text's rest gives, after the samples before it
abbrev pub after : List Stream → Answer (List Stream) → Answer (List Stream)
after xs (refused k p) = refused k p
after xs (done ys) = done (xs ++ ys)

-- ---- one line

first-line-some : (bs : List ℕ) → 0 < length bs → first_line bs ≡ some (cut_at newline bs)
first-line-some [] h = absurd (omega arith)
first-line-some (b ∷ bs) h = refl

first-line-none : (bs : List ℕ) → length bs ≡ 0 → first_line bs ≡ none
first-line-none [] h = refl
first-line-none (b ∷ bs) h = absurd (omega arith)

-- a good line has its newline
pub not_empty : (bs : List ℕ) {s : Stream} {rest : List ℕ} → next_line (cut_at newline bs) ≡ good_line s rest → 0 < length bs
unfolding cut_at
not_empty [] e = let z : ◌≡◌ {A = ℕ} 0 1 = cc in absurd (omega arith)
not_empty (b ∷ bs) e = omega arith

-- what comes after a good line is the end of the text that begins with it
rest_is : (bs : List ℕ) {s : Stream} {rest : List ℕ} → next_line (cut_at newline bs) ≡ good_line s rest →
    (k : ℕ) × (k < length bs) × (rest ≡ drop (suc k) bs)
unfolding cut_at
rest_is [] e = let z : ◌≡◌ {A = ℕ} 0 1 = cc in absurd (omega arith)
rest_is (b ∷ bs) {s} {rest} e = go (ltb (first_place (is newline) (b ∷ bs)) (length (b ∷ bs))) refl
  where
    k : ℕ
    k = first_place (is newline) (b ∷ bs)

    after_cut : (o : Option Stream) (r : List ℕ) → before_rest o r ≡ good_line s rest → rest ≡ r
    after_cut none r f = let z : ◌≡◌ {A = ℕ} 0 1 = cc in absurd (omega arith)
    after_cut (some t) r f = cc

    go : (t : Bool) → ltb k (length (b ∷ bs)) ≡ t → (k : ℕ) × (k < length (b ∷ bs)) × (rest ≡ drop (suc k) (b ∷ bs))
    go true h =
        let l = ltb-true k (length (b ∷ bs)) h in
        (k, l, after_cut (line (take k (b ∷ bs))) (drop (suc k) (b ∷ bs)) (sym (ap next_line (cut_found newline (b ∷ bs) l)) ∙ e))
    go false h =
        let f = sym (ap next_line (cut_none newline (b ∷ bs) (omega (arith, ltb-false k (length (b ∷ bs)) h, first-place-within (is newline) (b ∷ bs))))) ∙ e in
        let z : ◌≡◌ {A = ℕ} 0 1 = cc in absurd (omega arith)

pub text_bad : (room i : ℕ) (c : Cut) → next_line c ≡ bad_line → text (suc room) i (some c) ≡ refused 15 i
unfolding text
text_bad room i (unbroken l) e = refl
text_bad room i (broken l rest) e = go (line l) e
  where
    go : (o : Option Stream) → before_rest o rest ≡ bad_line → with_sample o i (text room (suc i) (first_line rest)) ≡ refused 15 i
    go none e = refl
    go (some s) e = let z : ◌≡◌ {A = ℕ} 0 1 = cc in absurd (omega arith)

pub text_good : (room i : ℕ) (c : Cut) (s : Stream) (rest : List ℕ) → next_line c ≡ good_line s rest →
    text (suc room) i (some c) ≡ with_sample (some s) i (text room (suc i) (first_line rest))
unfolding text
text_good room i (unbroken l) s rest e = let z : ◌≡◌ {A = ℕ} 0 1 = cc in absurd (omega arith)
text_good room i (broken l r) s rest e = go (line l) e
  where
    go : (o : Option Stream) → before_rest o r ≡ good_line s rest →
        with_sample o i (text room (suc i) (first_line r)) ≡ with_sample (some s) i (text room (suc i) (first_line rest))
    go none e = let z : ◌≡◌ {A = ℕ} 0 1 = cc in absurd (omega arith)
    go (some t) e =
        let p : t ≡ s = cc in
        let q : r ≡ rest = cc in
        rw (p, q) refl

after_none : (y : Answer (List Stream)) → after [] y ≡ y
after_none (refused k p) = refl
after_none (done ys) = refl

after-sample : (xs : List Stream) (s : Stream) (i : ℕ) (y : Answer (List Stream)) → after xs (with_sample (some s) i y) ≡ after (xs ++ (s ∷ [])) y
after-sample xs s i (refused k p) = refl
after-sample xs s i (done ys) = ap done (sym (append_assoc xs (s ∷ []) ys))

text-end : (room i : ℕ) → text room i none ≡ done []
unfolding text
text-end zero i = refl
text-end (suc room) i = refl

-- ---- the lines read so far

-- so many lines, up to a rest, gave these samples: what the text gives is what its rest gives, after them
pub record Passed (bs rest : List ℕ) (count : ℕ) (xs : List Stream) : Type 0 where
  pub at : ℕ
  pub within : at ≤ length bs
  pub here : rest ≡ drop at bs
  pub few : count ≤ most_lines
  pub many : length xs ≡ count
  pub so_far : samples bs ≡ after xs (text (most_lines - count) (suc count) (first_line rest))

pub passed_none : (bs : List ℕ) → Passed bs bs 0 []
unfolding samples
passed_none bs = record { at = 0; within = omega arith; here = refl; few = omega arith; many = refl; so_far = sym (after_none (text most_lines 1 (first_line bs))) }

module _ {bs rest : List ℕ} {count : ℕ} {xs : List Stream} (p : Passed bs rest count xs) where
  pub passed_all : length rest ≡ 0 → samples bs ≡ done xs
  passed_all e = p.so_far ∙ rw (first-line-none rest e, text-end (most_lines - count) (suc count)) (ap done (append-nil xs))

  pub passed_over : 0 < length rest → count ≡ most_lines → samples bs ≡ refused 2 0
  unfolding text
  passed_over has e = p.so_far ∙ rw (first-line-some rest has, e) refl

  -- the line's number is one more
  module _ (room : count < most_lines) where
    left : most_lines - count ≡ suc (most_lines - (count + 1))
    left = omega arith

    pub passed_bad : 0 < length rest → next_line (cut_at newline rest) ≡ bad_line → samples bs ≡ refused 15 (count + 1)
    passed_bad has e =
        p.so_far
        ∙ rw (first-line-some rest has, left, text_bad (most_lines - (count + 1)) (suc count) (cut_at newline rest) e, add-one) refl

    pub passed_more : (s : Stream) (next : List ℕ) → next_line (cut_at newline rest) ≡ good_line s next → Passed bs next (count + 1) (xs ++ (s ∷ []))
    passed_more s next e = let r = rest_is rest e in record {
      at = p.at + suc r.0;
      within = omega (arith, r.1, p.within, ap length p.here, length-drop p.at bs);
      here = r.2 ∙ ap (drop (suc r.0)) p.here ∙ rw drop-drop refl;
      few = omega arith;
      many = length-append xs (s ∷ []) ∙ omega (arith, p.many);
      so_far =
          p.so_far
          ∙ rw (
            first-line-some rest (not_empty rest e),
            left,
            text_good (most_lines - (count + 1)) (suc count) (cut_at newline rest) s next e,
            add-one,
          )
          (after-sample xs s (suc count) (text (most_lines - suc count) (suc (suc count)) (first_line next)));
    }

-- ---- a good text

not_done : {k q : ℕ} {all : List Stream} → ◌≡◌ {A = Answer (List Stream)} (refused k q) (done all) → ⊥
not_done e = let z : ◌≡◌ {A = ℕ} 0 1 = cc in omega arith

module _ {bs rest : List ℕ} {count : ℕ} {xs all : List Stream} (p : Passed bs rest count xs) (good : samples bs ≡ done all) where
  -- as many samples as all are all
  pub same_all : count ≡ length all → xs ≡ all
  same_all n = go (text (most_lines - count) (suc count) (first_line rest)) (sym p.so_far ∙ good)
    where
      go : (y : Answer (List Stream)) → after xs y ≡ done all → xs ≡ all
      go (refused k q) e = absurd (not_done e)
      go (done []) e = let f : xs ++ [] ≡ all = cc in sym (append-nil xs) ∙ f
      go (done (y ∷ ys)) e =
          let f : xs ++ (y ∷ ys) ≡ all = cc in
          absurd (omega (arith, n, p.many, ap length (sym f), length-append xs (y ∷ ys)))

  pub count-within : count ≤ length all
  count-within = go (text (most_lines - count) (suc count) (first_line rest)) (sym p.so_far ∙ good)
    where
      go : (y : Answer (List Stream)) → after xs y ≡ done all → count ≤ length all
      go (refused k q) e = absurd (not_done e)
      go (done ys) e =
          let f : xs ++ ys ≡ all = cc in
          omega (arith, p.many, ap length (sym f), length-append xs ys)

  pub more_room : 0 < length rest → count < most_lines
  more_room has = go (most_lines - count) refl
    where
      go : (m : ℕ) → most_lines - count ≡ m → count < most_lines
      go zero e = absurd (not_done (sym (passed_over p has (omega (arith, p.few))) ∙ good))
      go (suc m) e = omega arith

  pub never_bad : 0 < length rest → next_line (cut_at newline rest) ≡ bad_line → ⊥
  never_bad has e = not_done (sym (passed_bad p (more_room has) has e) ∙ good)

  -- fewer than all are followed by a line
  pub line-left : count < length all → 0 < length rest
  line-left h = go (length rest) refl
    where
      go : (n : ℕ) → length rest ≡ n → 0 < length rest
      go zero q =
          let f : samples bs ≡ done xs = passed_all p q in
          let g : xs ≡ all = cc in
          absurd (omega (arith, p.many, ap length g))
      go (suc n) q = omega arith

-- ---- at most so many samples as lines

text_few : (room i : ℕ) (c : Option Cut) (xs : List Stream) → text room i c ≡ done xs → length xs ≤ room
unfolding text
text_few zero i none xs e = let n : xs ≡ [] = cc in omega (arith, ap length n)
text_few zero i (some c) xs e = absurd (not_done e)
text_few (suc room) i none xs e = let n : xs ≡ [] = cc in omega (arith, ap length n)
text_few (suc room) i (some (unbroken l)) xs e = absurd (not_done e)
text_few (suc room) i (some (broken l rest)) xs e =
    go (line l) (text room (suc i) (first_line rest)) refl e (text_few room (suc i) (first_line rest))
  where
    go : (o : Option Stream) (y : Answer (List Stream)) → text room (suc i) (first_line rest) ≡ y → with_sample o i y ≡ done xs →
        ((ys : List Stream) → text room (suc i) (first_line rest) ≡ done ys → length ys ≤ room) → length xs ≤ suc room
    go none y q e f = absurd (not_done e)
    go (some s) (refused k p) q e f = absurd (not_done e)
    go (some s) (done ys) q e f = let n : xs ≡ s ∷ ys = cc in omega (arith, ap length n, f ys q)

pub samples_few : (bs : List ℕ) (xs : List Stream) → samples bs ≡ done xs → length xs ≤ most_lines
unfolding samples
samples_few bs xs e = text_few most_lines 1 (first_line bs) xs e

-- ---- the outcome, once a text is decided

module _ (bs : List ℕ) (es ns : List ℤ) where
  pub outcome_refused : (k q : ℕ) → refused k q ≡ counted (samples bs) → samples_answer bs es ns ≡ refused k q
  unfolding samples_answer
  outcome_refused k q e = go (samples bs) e
    where
      go : (y : Answer (List Stream)) → refused k q ≡ counted y → with_room es ns y ≡ refused k q
      go (refused k' q') e =
          let a : k ≡ k' = cc in
          let b : q ≡ q' = cc in
          rw (a, b) refl
      go (done xs) e = let z : ◌≡◌ {A = ℕ} 0 1 = cc in absurd (omega arith)

  good_text : (n : ℕ) → done n ≡ counted (samples bs) → (all : List Stream) × (samples bs ≡ done all) × (n ≡ length all)
  good_text n e = go (samples bs) refl e
    where
      go : (y : Answer (List Stream)) → samples bs ≡ y → done n ≡ counted y → (all : List Stream) × (samples bs ≡ done all) × (n ≡ length all)
      go (refused k q) s e = let z : ◌≡◌ {A = ℕ} 0 1 = cc in absurd (omega arith)
      go (done xs) s e = (xs, s, cc)

  pub fit_answer : {n : ℕ} (f : Fit bs n es ns) → samples_answer bs es ns ≡ done f.all
  unfolding samples_answer
  fit_answer f =
      rw f.good
      (simp (le-ltb (length es) (length f.all) (omega (arith, f.many, f.east_room)), le-ltb (length ns) (length f.all) (omega (arith, f.many, f.north_room)))
      refl)

  module _ (n : ℕ) (decided : done n ≡ counted (samples bs)) where
    pub short : (ltb (length es) n || ltb (length ns) n) ≡ true → samples_answer bs es ns ≡ refused 5 0
    unfolding samples_answer
    short h = let g = good_text n decided in rw (g.1, ← g.2, h) refl

    pub fit : n ≤ length es → n ≤ length ns → Fit bs n es ns
    fit l h =
        let g = good_text n decided in
        record { all = g.0; good = g.1; many = g.2; east_room = l; north_room = h }

    pub fit_count : n ≤ length es → n ≤ length ns → done n ≡ counted (samples_answer bs es ns)
    fit_count l h = decided ∙ sym (ap counted (fit_answer (fit l h)) ∙ ap counted (sym (fit l h).good))

-- outputs of as many places as a text has lines are never too short
pub room_for_all : (bs : List ℕ) (es ns : List ℤ) → most_lines ≤ length es → most_lines ≤ length ns → samples_answer bs es ns ≡ samples bs
unfolding samples_answer
room_for_all bs es ns l h = go (samples bs) refl
  where
    go : (y : Answer (List Stream)) → samples bs ≡ y → with_room es ns y ≡ y
    go (refused k p) e = refl
    go (done xs) e =
        let few = samples_few bs xs e in
        simp (le-ltb (length es) (length xs) (omega arith), le-ltb (length ns) (length xs) (omega arith)) refl
