-- What is left in closes to the ring, which is written, or an output is too short for it.
use Rattle.std.specs.Prelude.{◌≡◌, Err}
use Rattle.std.proofs.Common.{sym, ap, ◌∙◌, rules}
use Rattle.rules.specs.Lists.{zeros}
use Rattle.laws_stack.specs.ClosedPlaces.{closes-ring}
use Rattle.samples.specs.Answers.{answer_of}
use Rattle.samples.specs.declared.refusals.Refusal.{Refusal}
use Rattle.closing.specs.RingWritten.{outcome_short, outcome_done}
use Rattle.closing.proofs.close.Goals as goal

pub returns-then-too_short : goal.returns-then-too_short
returns-then-too_short c =
    let a = c.args in
    let cleared : c.clear.new.w ≡ zeros a.scratch.now = search rules in
    outcome_short _ _ _ (closes-ring c.left_in-k.ensures) a.out_east.now a.out_north.now a.scratch.now
    (ap (λ (r : Refusal). answer_of (Err r)) c.into.ensures) (sym c.too_short.ensures ∙ c.if-too_short.true) cleared

pub returns : goal.returns
returns c =
    let a = c.args in
    let cleared : c.clear-2.new.w ≡ zeros a.scratch.now = search rules in
    outcome_done _ _ _ (closes-ring c.left_in-k.ensures) a.out_east.now a.out_north.now a.scratch.now
    (sym c.too_short.ensures ∙ c.if-too_short.false) c.put.ensures.0 c.put.ensures.1 cleared
