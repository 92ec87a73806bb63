use Rattle.std.specs.Prelude.{[], ◌∷◌, ◌++◌}
use Rattle.std.proofs.Common.{refl, sym, ap, ◌∙◌, arith, rules}
use Rattle.rules.specs.Refusals.{done}
use Rattle.rules.specs.Entries.{counted}
use Rattle.samples.specs.HeldStream.{stream_of}
use Rattle.text.specs.TextLines.{passed_none, passed_over, passed_bad, passed_more, passed_all}
use Rattle.text.proofs.reading.decide.Goals as goal

pub loop-count-init : goal.loop-count-init
loop-count-init c = ([], passed_none c.args.text.now)

pub returns-then-is_empty : goal.returns-then-is_empty
returns-then-is_empty c =
    let i = c.loop-count.invariant in
    sym (ap counted (passed_all i.1 (search rules)) ∙ ap done i.1.many)

pub returns-in_default : goal.returns-in_default
returns-in_default c =
    rw (c.at.ensures, passed_bad c.loop-count.invariant.1 (omega arith) (search rules) (sym c.in_default.ensures)) refl

pub loop-count-preserved : goal.loop-count-preserved
loop-count-preserved c =
    let i = c.loop-count.invariant in
    let s = stream_of c.in-Some.first.sample in
    (i.0 ++ (s ∷ []), passed_more i.1 (omega arith) s c.in-Some.first.rest.now (sym c.in-Some.ensures))

pub returns-then-is_empty-2 : goal.returns-then-is_empty-2
returns-then-is_empty-2 c =
    let i = c.loop-count.invariant in
    sym (ap counted (passed_all i.1 (search rules)) ∙ ap done (i.1.many ∙ omega arith))

pub returns : goal.returns
returns c = rw (c.into.ensures, passed_over c.loop-count.invariant.1 (search rules) (omega arith)) refl
