-- The ring, over the promise of the entry: a call that is done leaves the ring of its samples at the front of both outputs. A call is any that the
-- entry's own promise allows. Assumes nothing.
use Rattle.std.specs.Prelude.{◌≡◌, List, [], ◌∷◌, ◌++◌, ℕ, ℤ, length, Result, Ok}
use Rattle.std.proofs.Common.{sym, ap, ◌∙◌, eqb-true}
use contract.Lifetimes.{Lfts}
use denote.Triple.Clauses.{AtExit}
use borrow.Fn.Kinds.{Dens, ended_of}
use Rattle.std.proofs.lemmas.Bool.{not-false}
use Rattle.rules.specs.Streams.{Stream, streams}
use Rattle.rules.specs.Ring.{ring}
use Rattle.rules.specs.Entries.{sample_tests, ring_short, ring_answer}
use Rattle.samples.specs.Answers.{answer_of}
use Rattle.ring.proofs.ring.Kinds as kinds
use Rattle.ring.proofs.ring.Reads as reads
use Rattle.demands.specs.Done.{Left, ring-left}
use Rattle.samples.specs.declared.refusals.Refusal.{Refusal}

-- a call of the ring
pub record Ringing : Type 1 where
  pub lifetimes : Lfts 5
  pub given : Dens lifetimes kinds.ps
  pub answer : Result ℕ Refusal
  pub left : AtExit (ended_of 5 kinds.ps kinds.r) lifetimes
  pub promised : reads.Post lifetimes given answer left

-- the samples that it is given, the two outputs as they came and as it leaves them, the scratch
abbrev pub east : Ringing → List ℤ
east c = c.given.0.now

abbrev pub north : Ringing → List ℤ
north c = c.given.1.0.now

abbrev pub samples : Ringing → List Stream
samples c = streams (east c) (north c)

abbrev pub east_before : Ringing → List ℤ
east_before c = c.given.1.1.0.now

abbrev pub north_before : Ringing → List ℤ
north_before c = c.given.1.1.1.0.now

abbrev pub scratch : Ringing → List ℕ
scratch c = c.given.1.1.1.1.0.now

abbrev pub east_after : Ringing → List ℤ
east_after c = c.left.1.1.0.now

abbrev pub north_after : Ringing → List ℤ
north_after c = c.left.1.1.1.0.now

-- what a call that is done did
pub record Ringed-up (c : Ringing) (n : ℕ) : Type 0 where
  pub even : length (east c) ≡ length (north c)
  pub left : Left (ring (samples c)) n (east_after c) (north_after c)

pub ringing_done : (c : Ringing) {n : ℕ} → c.answer ≡ Ok n → Ringed-up c n
unfolding ring_answer
ringing_done c {n} e =
    let r = ring (samples c) in
    let d = ring-left
    (sample_tests (east c) (north c) (scratch c) ++ (ring_short (east_before c) (north_before c) r ∷ []))
    r
    (east_before c)
    (north_before c)
    (sym (ap answer_of e) ∙ c.promised.says)
    c.promised.east_after
    c.promised.north_after in
    record { even = eqb-true (length (east c)) (length (north c)) (not-false _ d.0.0); left = d.1 }
