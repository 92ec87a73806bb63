-- Turning about, over the promise of the entry: turned about twice, wherever neither step is refused, a ring is itself; turned once, its chains are changed
-- over, reversed, both signs changed. A call is any that the entry's own promise allows. Assumes nothing.
use Rattle.std.specs.Prelude.{◌≡◌, true, List, [], ◌∷◌, ◌++◌, map, reverse, ℕ, ℤ, length, take, Result, Ok}
use Rattle.std.proofs.Common.{sym, ap, ap₂, ◌∙◌, eqb-true}
use contract.Lifetimes.{Lfts}
use denote.Triple.Clauses.{AtExit}
use borrow.Fn.Kinds.{Dens, ended_of}
use Rattle.std.proofs.lemmas.Bool.{not-false}
use Rattle.rules.specs.Streams.{Stream, streams, turned}
use Rattle.rules.specs.Chain.{upper, lower}
use Rattle.rules.specs.Use.{envelope, turn_about}
use Rattle.rules.specs.Refusals.{ring_tests, not_envelope}
use Rattle.rules.specs.Entries.{ring_short, turn_answer}
use Rattle.laws_rings.specs.Turning.{turn_twice, turned-upper, turned-lower}
use Rattle.samples.specs.Answers.{answer_of}
use Rattle.envelope.proofs.turn.turn_about.Kinds as turn-kinds
use Rattle.envelope.proofs.turn.turn_about.Reads as turn-reads
use Rattle.demands.specs.Done.{Left, ring-left, left-ring, left_as_given}
use Rattle.samples.specs.declared.refusals.Refusal.{Refusal}

-- a call of turn about
pub record Turning : Type 1 where
  pub lifetimes : Lfts 4
  pub given : Dens lifetimes turn-kinds.ps
  pub answer : Result ℕ Refusal
  pub left : AtExit (ended_of 4 turn-kinds.ps turn-kinds.r) lifetimes
  pub promised : turn-reads.Post lifetimes given answer left

-- the ring that it is given, the two outputs as they came and as it leaves them
abbrev pub east : Turning → List ℤ
east c = c.given.0.now

abbrev pub north : Turning → List ℤ
north c = c.given.1.0.now

abbrev pub east_before : Turning → List ℤ
east_before c = c.given.1.1.0.now

abbrev pub north_before : Turning → List ℤ
north_before c = c.given.1.1.1.0.now

abbrev pub east_after : Turning → List ℤ
east_after c = c.left.1.1.0.now

abbrev pub north_after : Turning → List ℤ
north_after c = c.left.1.1.1.0.now

-- the ring that it is given
abbrev pub corners : Turning → List Stream
corners c = streams (east c) (north c)

-- what a call that is done did: its ring is an envelope, and the ring turned about stands at the front of both outputs
pub record Turned-about (c : Turning) (n : ℕ) : Type 0 where
  pub even : length (east c) ≡ length (north c)
  pub ring_given : envelope (corners c) ≡ true
  pub left : Left (turn_about (corners c)) n (east_after c) (north_after c)

pub turning_done : (c : Turning) {n : ℕ} → c.answer ≡ Ok n → Turned-about c n
unfolding turn_answer
turning_done c {n} e =
    let r = turn_about (corners c) in
    let d = ring-left
    (ring_tests (east c) (north c) ++ (not_envelope (east c) (north c) ∷ ring_short (east_before c) (north_before c) r ∷ []))
    r
    (east_before c)
    (north_before c)
    (sym (ap answer_of e) ∙ c.promised.answer)
    c.promised.east_after
    c.promised.north_after in
    record { even = eqb-true (length (east c)) (length (north c)) (not-false _ d.0.0); ring_given = not-false _ d.0.1.1.1.0; left = d.1 }

-- a ring turned about, and the result turned about, is the ring
pub turned-twice : (c d : Turning) {n m : ℕ} → c.answer ≡ Ok n → d.answer ≡ Ok m →
    east d ≡ take n (east_after c) → north d ≡ take n (north_after c) →
    (m ≡ length (east c)) × (take m (east_after d) ≡ east c) × (take m (north_after d) ≡ north c)
turned-twice c d {n} {m} e f he hn =
    left_as_given
    (turning_done d f).left
    first.even
    (ap turn_about (ap₂ streams he hn ∙ left-ring first.left) ∙ turn_twice (corners c) first.ring_given)
  where
    first : Turned-about c n
    first = turning_done c e

-- and what it leaves has for its upper chain the lower chain of what it was given, both signs changed, in reverse; and the other way round
pub turned_chains : (c : Turning) {n : ℕ} → c.answer ≡ Ok n → let r = streams (take n (east_after c)) (take n (north_after c)) in
    (upper r ≡ reverse (map turned (lower (corners c)))) × (lower r ≡ reverse (map turned (upper (corners c))))
turned_chains c e =
    let l = left-ring (turning_done c e).left in
    (ap upper l ∙ turned-upper (corners c), ap lower l ∙ turned-lower (corners c))
