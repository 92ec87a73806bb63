use Rattle.std.specs.Prelude.{◌+◌}
use Rattle.std.proofs.Common.{sym, ◌∙◌}
use borrow.Author.Rules.{part_to_end}
use Rattle.text.specs.Cuts.{cut-at-place, cut_without_place}
use Rattle.text.proofs.reading.cut_at.Goals as goal

pub returns-in_err-place : goal.returns-in_err-place
returns-in_err-place c =
    rw c.from_residual.ensures (sym (cut_without_place c.args.b c.args.s.now (sym c.place_of.ensures ∙ c.in_err-place.was)))

pub returns : goal.returns
returns c =
    rw (part_to_end c.args.s.now (c.in_ok-place.place + 1))
    (sym (cut-at-place c.args.b c.args.s.now c.in_ok-place.place (sym c.place_of.ensures ∙ c.in_ok-place.was)))
