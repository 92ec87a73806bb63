-- The strongest set, over the promise of the entry: read off a ring, it is the strongest over every stream behind the ring; and on one course the strongest set
-- of a sum is the sum of the two strongest sets. A call is any that the entry's own promise allows. Assumes nothing.
use Rattle.std.specs.Prelude.{◌≡◌, refl, ◌&&◌, ℕ, ℤ, pos, ◌+ℤ◌, eqb, ◌≤ℤ◌, length, Result, Ok}
use Rattle.std.proofs.Common.{sym, ap, ap₂, ◌∙◌, subst, arith, eqb-true}
use mathlib.Core.List.{List, [], ◌∷◌, ◌++◌, Memᴰ}
use contract.Lifetimes.{Lfts}
use denote.Triple.Clauses.{AtExit}
use borrow.Fn.Kinds.{Dens, ended_of}
use Rattle.std.proofs.lemmas.Bool.{eqb-false, not-false}
use Rattle.rules.specs.Streams.{Stream, stream, streams, eqZ}
use Rattle.rules.specs.Ring.{ring}
use Rattle.rules.specs.Use.{set_on, strongest, sum}
use Rattle.rules.specs.Refusals.{test, ring_tests, single_beyond, not_envelope}
use Rattle.rules.specs.Entries.{Strongest, strongest_of, strongest_answer}
use Rattle.laws_rings.specs.FewestCorners.{no_samples}
use Rattle.laws_rings.specs.Strongest as rings
use Rattle.laws_sums.specs.Sums.{sum-strongest}
use Rattle.samples.specs.Samples.{streams-length}
use Rattle.envelope.specs.UseAnswers.{strongest_as}
use Rattle.samples.specs.Answers.{answer_as}
use Rattle.envelope.proofs.strongest.strongest.Kinds as kinds
use Rattle.envelope.proofs.strongest.strongest.Reads as reads
use Rattle.demands.specs.Done.{when_done}
use Rattle.samples.specs.declared.refusals.Refusal.{Refusal}
use Rattle.envelope.specs.declared.strongest.Greatest.{Greatest}

-- a call of strongest set
pub record Call : Type 1 where
  pub lifetimes : Lfts 2
  pub given : Dens lifetimes kinds.ps
  pub answer : Result Greatest Refusal
  pub left : AtExit (ended_of 2 kinds.ps kinds.r) lifetimes
  pub promised : reads.Post lifetimes given answer left

-- the ring and the course that it is given
abbrev pub east : Call → List ℤ
east c = c.given.0.now

abbrev pub north : Call → List ℤ
north c = c.given.1.0.now

abbrev pub corners : Call → List Stream
corners c = streams (east c) (north c)

abbrev pub x : Call → ℤ
x c = c.given.1.1.0

abbrev pub y : Call → ℤ
y c = c.given.1.1.1.0

abbrev pub course : Call → Stream
course c = stream (x c) (y c)

-- z is the strongest set over the streams: one sets so, and none stronger
pub record Strongest-over (c : Call) (z : ℤ) (xs : List Stream) : Type 0 where
  pub one : (s : Stream) × Memᴰ s xs × (z ≡ set_on (x c) (y c) s)
  pub none_stronger : (s : Stream) → Memᴰ s xs → set_on (x c) (y c) s ≤ℤ z

-- what is read off is the strongest over the ring's corners, of which there is one
over-corners : (r : List Stream) (x y : ℤ) {z : ℤ} {i : ℕ} → (length r ≡ 0 → ⊥) → strongest_of x y r ≡ record { set = z; place = i } →
    (p : Stream) × (ps : List Stream) × (r ≡ p ∷ ps) × (strongest x y p ps ≡ z)
over-corners [] x y f e = absurd (f refl)
over-corners (p ∷ ps) x y f e = (p, ps, refl, ap (λ (t : Strongest). t.set) e)

-- what a call that is not refused read off
says : (c : Call) {z : ℤ} {i : ℕ} → c.answer ≡ Ok (record { set = z; place = i }) →
    (p : Stream) × (ps : List Stream) × (corners c ≡ p ∷ ps) × (strongest (x c) (y c) p ps ≡ z)
unfolding strongest_answer
says c e =
    let w = when_done
    (ring_tests (east c) (north c)
    ++ (single_beyond (course c)
    ∷ not_envelope (east c) (north c)
    ∷ test 10 0 (eqb (length (east c)) 0)
    ∷ test 11 0 (eqZ (x c) (pos 0) && eqZ (y c) (pos 0))
    ∷ []))
    (strongest_of (x c) (y c) (corners c))
    (sym c.promised ∙ ap (answer_as strongest_as) e) in
    let even = eqb-true (length (east c)) (length (north c)) (not-false _ w.0.0) in
    let some = eqb-false (length (east c)) 0 w.0.1.1.1.1.1.0 in
    over-corners (corners c) (x c) (y c) (λ h. some (sym (streams-length (east c) (north c) even) ∙ h)) w.1

-- the streams behind a ring with a corner: there is one
over-behind : (c : Call) {z : ℤ} (p : Stream) (ps xs : List Stream) → ring xs ≡ p ∷ ps → strongest (x c) (y c) p ps ≡ z → Strongest-over c z xs
over-behind c p ps [] h e = absurd (let k : length (p ∷ ps) ≡ 0 = ap length (sym h ∙ no_samples) in omega arith)
over-behind c {z} p ps (q ∷ qs) h e =
    let b = rings.strongest_of_behind (x c) (y c) p ps q qs h in
    record {
      one = (b.0, b.1, sym e ∙ b.2);
      none_stronger = λ s m. subst (λ (t : ℤ). set_on (x c) (y c) s ≤ℤ t) e (rings.strongest-behind (x c) (y c) p ps q qs h m);
    }

-- THE LAW
pub strongest-behind : (c : Call) {z : ℤ} {i : ℕ} → c.answer ≡ Ok (record { set = z; place = i }) → (xs : List Stream) → ring xs ≡ corners c → Strongest-over c z xs
strongest-behind c e xs h = let (p, ps, r, k) = says c e in over-behind c p ps xs (h ∙ r) k

-- THE LAW, of a sum: of three calls on one course, the third on the sum of the others' rings, the third's set is the sum of the others'
pub strongest-added : (a b c : Call) {z w v : ℤ} {i j k : ℕ} → a.answer ≡ Ok (record { set = z; place = i }) → b.answer ≡ Ok (record { set = w; place = j }) → c.answer ≡ Ok (record { set = v; place = k })
    → course a ≡ course c → course b ≡ course c → sum (corners a) (corners b) ≡ corners c → v ≡ z +ℤ w
strongest-added a b c e f g h l m =
    let (p, ps, r, at_a) = says a e in
    let (q, qs, t, at_b) = says b f in
    let (s, ss, u, at_c) = says c g in
    sym at_c
    ∙ sum-strongest (x c) (y c) p ps q qs s ss (sym (ap₂ sum r t) ∙ m ∙ u)
    ∙ sym (ap₂ ◌+ℤ◌ (ap (λ (o : Stream). strongest o.east o.north p ps) h) (ap (λ (o : Stream). strongest o.east o.north q qs) l))
    ∙ ap₂ ◌+ℤ◌ at_a at_b
