-- The rules' tests in order, as an entry makes them: the first that holds refuses, and where none does they are passed.
-- Assumes nothing.
use Rattle.std.specs.Prelude.{◌≡◌, refl, Bool, true, false, cond, not, ◌&&◌, ◌||◌, List, [], ◌∷◌, ◌++◌, ℕ, ◌+◌, ◌*◌, ◌≤◌, ℤ, T, ltb, eqb, length, replicate}
use Rattle.std.proofs.Common.{sym, ap, ap₂, ◌∙◌, true≢false, arith, eqb-true, ltb-false}
use Rattle.std.proofs.lemmas.Bool.{not-false}
use Rattle.rules.specs.Lists.{zeros}
use Rattle.rules.specs.Streams.{most}
use Rattle.rules.specs.Refusals.{Answer, refused, done, Test, test, unless, output_short, ring_tests, scratch_after}
pub use Rattle.laws_refusals.specs.NoneHold.{None_hold}
use Rattle.samples.specs.Positions.{Sampled}
use Rattle.samples.specs.Samples.{sampled}

-- the tests of samples with so many words of scratch: 1, 2, 3, 4
abbrev pub room_tests : List ℤ → List ℤ → ℕ → List Test
room_tests es ns room = ring_tests es ns ++ (test 4 0 (ltb room (16 * length es + 64)) ∷ [])

-- ---- all of them

-- a test that holds refuses after others that do not
pub refused_at : {A : Type 0} (x : A) (us : List Test) (t : Test) (ts : List Test) → None_hold us → t.holds ≡ true
    → unless (us ++ (t ∷ ts)) x ≡ refused t.number t.place
refused_at x [] t ts n e = ap (λ (b : Bool). cond b (refused t.number t.place) (unless ts x)) e
refused_at x (u ∷ us) t ts n e =
    ap (λ (b : Bool). cond b (refused u.number u.place) (unless (us ++ (t ∷ ts)) x)) n.0 ∙ refused_at x us t ts n.1 e

pub passed_by : {A : Type 0} {x : A} (ts : List Test) → None_hold ts → unless ts x ≡ done x
passed_by [] n = refl
passed_by {x} (t ∷ ts) n = ap (λ (b : Bool). cond b (refused t.number t.place) (unless ts x)) n.0 ∙ passed_by ts n.1

pub passed_tests : {A : Type 0} (x : A) {y : A} (ts : List Test) → unless ts x ≡ done y → None_hold ts
passed_tests x [] e = tt
passed_tests {A} x {y} (t ∷ ts) e = go t.holds refl e (λ f. passed_tests x ts f)
  where
    go : (b : Bool) → t.holds ≡ b → cond b (refused t.number t.place) (unless ts x) ≡ done y → (unless ts x ≡ done y → None_hold ts)
        → (t.holds ≡ false) × None_hold ts
    go true p f r = let z : ◌≡◌ {A = ℕ} 0 1 = cc in absurd (omega arith)
    go false p f r = (p, r f)

-- a refusal is the same whatever is done where none of the tests holds
pub refused_too : {A B : Type 0} (x : A) (y : B) {k p : ℕ} (ts : List Test) → unless ts x ≡ refused k p → unless ts y ≡ refused k p
refused_too x y [] e = let z : ◌≡◌ {A = ℕ} 0 1 = cc in absurd (omega arith)
refused_too x y {k} {p} (t ∷ ts) e = go t.holds e (λ f. refused_too x y ts f)
  where
    go : (b : Bool) → cond b (refused t.number t.place) (unless ts x) ≡ refused k p → (unless ts x ≡ refused k p → unless ts y ≡ refused k p)
        → cond b (refused t.number t.place) (unless ts y) ≡ refused k p
    go true f r = let number : t.number ≡ k = cc in let place : t.place ≡ p = cc in ap₂ refused number place
    go false f r = r f

-- two lists that pass 1, 2 and 3, before other tests
pub sampled_few : (es ns : List ℤ) (ts : List Test) → None_hold (ring_tests es ns ++ ts) → Sampled es ns × (length es ≤ most)
sampled_few es ns ts n = (
  sampled es ns (eqb-true (length es) (length ns) (not-false (eqb (length es) (length ns)) n.0)) n.1.1.0,
  ltb-false most (length es) n.1.0,
)

-- ---- tests after others

-- what comes after passed tests; a refusal stays
abbrev pub then_answer : {A B : Type 0} → Answer B → Answer A → Answer A
then_answer (done y) x = x
then_answer (refused k p) x = refused k p

pub answer_after : {A B : Type 0} (ts us : List Test) (x : A) (y : B) → unless (ts ++ us) x ≡ then_answer (unless ts y) (unless us x)
answer_after [] us x y = refl
answer_after (t ∷ ts) us x y = go t.holds (answer_after ts us x y)
  where
    go : (b : Bool) → unless (ts ++ us) x ≡ then_answer (unless ts y) (unless us x)
        → cond b (refused t.number t.place) (unless (ts ++ us) x)
        ≡ then_answer (cond b (refused t.number t.place) (unless ts y)) (unless us x)
    go true e = refl
    go false e = e

-- by what was said of the first of them
pub answer_by : {A B : Type 0} (ts us : List Test) (x : A) (y : B) {t : Answer B} → unless ts y ≡ t → unless (ts ++ us) x ≡ then_answer t (unless us x)
answer_by {A} {B} ts us x y e = answer_after ts us x y ∙ ap (λ (t : Answer B). then_answer t (unless us x)) e

-- one test before others
module _ {A : Type 0} (t : Test) (ts : List Test) (x : A) where
  pub refuses : t.holds ≡ true → unless (t ∷ ts) x ≡ refused t.number t.place
  refuses e = rw e

  pub passes : t.holds ≡ false → unless (t ∷ ts) x ≡ unless ts x
  passes e = rw e

-- where neither output is too short for n items, both have room for them
pub fits_both : (east north n : ℕ) → (ltb east n || ltb north n) ≡ false → (n ≤ east) × (n ≤ north)
fits_both east north n e = go (ltb east n) refl e
  where
    go : (b : Bool) → ltb east n ≡ b → (b || ltb north n) ≡ false → (n ≤ east) × (n ≤ north)
    go true p f = absurd (true≢false f)
    go false p f = (ltb-false east n p, ltb-false north n f)

-- no number among them is 5 or 18, after which scratch is zero
abbrev pub quiet : List Test → Bool
quiet [] = true
quiet (t ∷ ts) = not (eqb t.number 5 || eqb t.number 18) && quiet ts

pub quiet-number : {A : Type 0} (x : A) (ts : List Test) → T (quiet ts) → {k p : ℕ} → unless ts x ≡ refused k p → (eqb k 5 || eqb k 18) ≡ false
quiet-number x [] q e = let z : ◌≡◌ {A = ℕ} 0 1 = cc in absurd (omega arith)
quiet-number x (t ∷ ts) q {k} {p} e = go t.holds (eqb t.number 5 || eqb t.number 18) refl q e (λ r f. quiet-number x ts r f)
  where
    go : (b n : Bool) → (eqb t.number 5 || eqb t.number 18) ≡ n → T (not n && quiet ts)
        → cond b (refused t.number t.place) (unless ts x) ≡ refused k p
        → (T (quiet ts) → unless ts x ≡ refused k p → (eqb k 5 || eqb k 18) ≡ false)
        → (eqb k 5 || eqb k 18) ≡ false
    go b true f q g r = absurd q
    go true false f q g r = let same : t.number ≡ k = cc in ap (λ (m : ℕ). eqb m 5 || eqb m 18) (sym same) ∙ f
    go false false f q g r = r q g

-- so such a refusal leaves scratch as it was
pub quiet-scratch : {A : Type 0} (x : A) (ts : List Test) → T (quiet ts) → {k p : ℕ} → unless ts x ≡ refused k p → (old : List ℕ)
    → cond (eqb k 5 || eqb k 18) (zeros old) old ≡ old
quiet-scratch x ts q e old = ap (λ (b : Bool). cond b (zeros old) old) (quiet-number x ts q e)

-- after the last test, 5, all scratch is zero: what was made of it on the way is no matter, but its length
pub scratch_by_length : {A : Type 0} (short : Bool) (x : A) (now old : List ℕ) → length now ≡ length old
    → scratch_after (unless (output_short short ∷ []) x) now ≡ scratch_after (unless (output_short short ∷ []) x) old
scratch_by_length true x now old e = ap (λ (n : ℕ). replicate n 0) e
scratch_by_length false x now old e = ap (λ (n : ℕ). replicate n 0) e
