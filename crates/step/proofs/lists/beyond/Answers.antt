use Rattle.std.proofs.Common.{◌≡◌, ◌+◌, ℕ, ℤ, List, set, length-set, ◌∙◌, subst₂, arith, rules, length-take-le}
use Rattle.std.proofs.Math.Seq.{take-set-le}
use Rattle.samples.specs.Positions.{east_of}
use Rattle.step.specs.NumberLists.{past, Passed}
use Rattle.step.proofs.SignedWords.{word}
use Rattle.step.proofs.Passing.{one_then}
use Rattle.step.proofs.lists.beyond.Goals as goal

pub returns : goal.returns
returns c =
    let a = c.args in
    let f : word c.east.result ≡ c.east.result = search rules in
    one_then (omega (arith, c.requires, length-take-le a.t a.w.now (omega (arith, c.requires)))) (c.pass.auto.w ∙ simp length-set)
    (subst₂ (λ (z : ℤ) (l : List ℕ). Passed (λ y. past a.west z (east_of a.e.now y)) l (set a.w.now a.to a.x) (a.to + 1) c.pass.result c.pass.new.w)
    (f ∙ c.east.ensures)
    (take-set-le a.t a.w.now a.to a.x c.requires.behind)
    c.pass.ensures)
