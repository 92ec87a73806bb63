-- The entries that take two rings and write one, join and sum: a call, what it is given and leaves, and what it did where it is done. Both take the same lists
-- and make the same tests of them; what a contract says of a call is left open here. Assumes nothing.
use Rattle.std.specs.Prelude.{◌≡◌, true, List, ◌++◌, ℕ, ℤ, length, Result, Ok}
use Rattle.std.proofs.Common.{sym, ap, ◌∙◌, eqb-true}
use contract.Lifetimes.{Lfts}
use denote.Triple.Clauses.{AtExit}
use borrow.Fn.Kinds.{Dens, ended_of}
use Rattle.std.proofs.lemmas.Bool.{not-false}
use Rattle.rules.specs.Streams.{Stream, streams}
use Rattle.rules.specs.Use.{envelope}
use Rattle.rules.specs.Refusals.{Test, unless}
use Rattle.rules.specs.Entries.{two_ring_tests}
use Rattle.samples.specs.Answers.{answer_of}
use Rattle.closing.specs.RingPromise.{Outcome}
use Rattle.join.proofs.join.Kinds as kinds
use Rattle.demands.specs.Done.{Left, ring-left}
use Rattle.samples.specs.declared.refusals.Refusal.{Refusal}

-- what a contract says of the arguments, the answer and what is left
abbrev pub Contract : Type 1
Contract = (κs : Lfts 7) → Dens κs kinds.ps → Result ℕ Refusal → AtExit (ended_of 7 kinds.ps kinds.r) κs → Type 0

-- a call that it allows
pub record Call (post : Contract) : Type 1 where
  pub lifetimes : Lfts 7
  pub given : Dens lifetimes kinds.ps
  pub answer : Result ℕ Refusal
  pub left : AtExit (ended_of 7 kinds.ps kinds.r) lifetimes
  pub promised : post lifetimes given answer left

module _ {post : Contract} where
  -- the rings that it is given, the two outputs as they came and as it leaves them, the scratch
  abbrev pub east : Call post → List ℤ
  east c = c.given.0.now

  abbrev pub north : Call post → List ℤ
  north c = c.given.1.0.now

  abbrev pub east2 : Call post → List ℤ
  east2 c = c.given.1.1.0.now

  abbrev pub north2 : Call post → List ℤ
  north2 c = c.given.1.1.1.0.now

  abbrev pub first : Call post → List Stream
  first c = streams (east c) (north c)

  abbrev pub second : Call post → List Stream
  second c = streams (east2 c) (north2 c)

  abbrev pub east_before : Call post → List ℤ
  east_before c = c.given.1.1.1.1.0.now

  abbrev pub north_before : Call post → List ℤ
  north_before c = c.given.1.1.1.1.1.0.now

  abbrev pub scratch : Call post → List ℕ
  scratch c = c.given.1.1.1.1.1.1.0.now

  abbrev pub east_after : Call post → List ℤ
  east_after c = c.left.1.1.1.1.0.now

  abbrev pub north_after : Call post → List ℤ
  north_after c = c.left.1.1.1.1.1.0.now

  abbrev pub scratch_after : Call post → List ℕ
  scratch_after c = c.left.1.1.1.1.1.1.0.now

  -- its tests are those of two rings and then its own, and it answers r
  abbrev pub Answers : Call post → List Test → List Stream → Type 0
  Answers c own r =
      Outcome (unless (two_ring_tests (east c) (north c) (east2 c) (north2 c) (scratch c) ++ own) r) c.answer
      (east_before c) (east_after c) (north_before c) (north_after c) (scratch c) (scratch_after c)

  -- what a call that is done did: its rings are envelopes, and the ring r stands at the front of both outputs
  pub record Done (c : Call post) (r : List Stream) (n : ℕ) : Type 0 where
    pub even : length (east c) ≡ length (north c)
    pub even2 : length (east2 c) ≡ length (north2 c)
    pub ring_given : envelope (first c) ≡ true
    pub ring2_given : envelope (second c) ≡ true
    pub left : Left r n (east_after c) (north_after c)

  pub when_answered : (c : Call post) (own : List Test) (r : List Stream) → Answers c own r → {n : ℕ} → c.answer ≡ Ok n → Done c r n
  when_answered c own r o e =
      let d = ring-left
      (two_ring_tests (east c) (north c) (east2 c) (north2 c) (scratch c) ++ own)
      r
      (east_before c)
      (north_before c)
      (sym (ap answer_of e) ∙ o.says)
      o.east_after
      o.north_after in
      record {
        even = eqb-true (length (east c)) (length (north c)) (not-false _ d.0.0);
        even2 = eqb-true (length (east2 c)) (length (north2 c)) (not-false _ d.0.1.1.1.1.0);
        ring_given = not-false _ d.0.1.1.1.0;
        ring2_given = not-false _ d.0.1.1.1.1.1.1.1.0;
        left = d.1;
      }
