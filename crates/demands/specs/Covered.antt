-- The cover test, over the promise of the entry: a call says yes exactly if the stream is a weighted mean of the corners; a stream that is covered
-- changes nothing when it joins all streams behind the ring, and one that is not changes something. A call is any that the entry's own promise allows.
-- Assumes nothing.
use Rattle.std.specs.Prelude.{◌≡◌, refl, Bool, true, List, [], ◌∷◌, ◌++◌, Result, Ok, false}
use Rattle.std.proofs.Common.{sym, ap, ap₂, ◌∙◌}
use Rattle.std.proofs.lemmas.Bool.{false≢true, not-false}
use mathlib.Core.List.Memᴰ
use contract.Lifetimes.{Lfts}
use denote.Triple.Clauses.{AtExit}
use borrow.Fn.Kinds.{Dens, ended_of}
use Rattle.rules.specs.Streams.{Stream, stream, streams}
use Rattle.rules.specs.Ring.{ring}
use Rattle.rules.specs.Use.{envelope, Mean, covers, join}
use Rattle.rules.specs.Refusals.{done, ring_tests, single_beyond, not_envelope}
use Rattle.rules.specs.Entries.{cover_answer}
use Rattle.laws_rings.specs.FewestCorners.{one_position}
use Rattle.laws_rings.specs.Joins.{join_rings}
use Rattle.laws_cover.specs.Covering.{covers_mean, mean_covers, covered_join, join_covered}
use Rattle.samples.specs.Answers.{answer_of}
use Rattle.envelope.proofs.cover.cover.Kinds as kinds
use Rattle.envelope.proofs.cover.cover.Reads as reads
use Rattle.demands.specs.Done.{when_done}
use Rattle.samples.specs.declared.refusals.Refusal.{Refusal}

-- a call of the cover test
pub record Call : Type 1 where
  pub lifetimes : Lfts 2
  pub given : Dens lifetimes kinds.ps
  pub answer : Result Bool Refusal
  pub left : AtExit (ended_of 2 kinds.ps kinds.r) lifetimes
  pub promised : reads.Post lifetimes given answer left

-- the ring and the stream that it is given
abbrev pub corners : Call → List Stream
corners c = streams c.given.0.now c.given.1.0.now

abbrev pub asked : Call → Stream
asked c = stream c.given.1.1.0 c.given.1.1.1.0

-- what a call that is not refused was given, and what it says
says : (c : Call) {b : Bool} → answer_of c.answer ≡ done b → (envelope (corners c) ≡ true) × (covers (corners c) (asked c) ≡ b)
unfolding cover_answer
says c e =
    let es = c.given.0.now in
    let ns = c.given.1.0.now in
    let w = when_done
    (ring_tests es ns ++ (single_beyond (asked c) ∷ not_envelope es ns ∷ []))
    (covers (corners c) (asked c))
    (sym c.promised ∙ e) in
    (not-false _ w.0.1.1.1.1.0, w.1)

-- THE RULE: a call that says yes has weights, and one that says no has none
pub yes_has_weights : (c : Call) → c.answer ≡ Ok true → Mean (corners c) (asked c)
yes_has_weights c e = let (v, k) = says c (ap answer_of e) in covers_mean (corners c) (asked c) v k

pub no_has_none : (c : Call) → c.answer ≡ Ok false → Mean (corners c) (asked c) → ⊥
no_has_none c e m = let (v, k) = says c (ap answer_of e) in false≢true (sym k ∙ mean_covers (corners c) (asked c) v m)

-- ---- joined

-- a stream alone is its own ring
alone : (s : Stream) → ring (s ∷ []) ≡ s ∷ []
alone s = one_position s (s ∷ []) (Memᴰ.head refl) (λ t m. Memᴰ.eq_of_singleton m)

-- THE LAW: a stream that is covered changes nothing
pub covered_behind : (c : Call) → c.answer ≡ Ok true → (xs : List Stream) → ring xs ≡ corners c → ring (xs ++ (asked c ∷ [])) ≡ ring xs
covered_behind c e xs h =
    let (v, k) = says c (ap answer_of e) in
    sym (join_rings xs (asked c ∷ [])) ∙ ap₂ join h (alone (asked c)) ∙ covered_join (corners c) (asked c) v k ∙ sym h

-- and one that is not changes something
pub uncovered_changes : (c : Call) → c.answer ≡ Ok false → join (corners c) (asked c ∷ []) ≡ corners c → ⊥
uncovered_changes c e h = let (v, k) = says c (ap answer_of e) in false≢true (sym k ∙ join_covered (corners c) (asked c) v h)
