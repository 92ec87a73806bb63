use Rattle.std.proofs.Common.{◌≡◌, ℤ, length, sym, ap, ◌∙◌, subst₂, arith, rules}
use Rattle.laws_rounds.specs.WholeList.{numbers, numbers-length, numbers-at}
use Rattle.samples.specs.Positions.{east_of}
use Rattle.step.specs.NumberLists.{between, Passed}
use Rattle.step.proofs.SignedWords.{word}
use Rattle.step.proofs.Passing.{passing_none, passing_more, passing_all}
use Rattle.step.proofs.lists.inner.Goals as goal

pub loop-x-init : goal.loop-x-init
loop-x-init c =
    let a = c.args in
    passing_none (λ x. between (word a.from) (word a.to) (east_of a.e.now x)) (numbers (length a.e.now)) a.w.now 2

pub loop-x-preserved : goal.loop-x-preserved
loop-x-preserved c =
    let a = c.args in
    let l = c.loop-x in
    let k : word c.east.result ≡ c.east.result = search rules in
    passing_more (λ x. between (word a.from) (word a.to) (east_of a.e.now x)) (numbers (length a.e.now)) a.w.now 2 _
    (c.between.ensures ∙ ap (between (word a.from) (word a.to)) (k ∙ c.east.ensures))
    (sym (numbers-at (length a.e.now) l.x 0 (omega arith)))
    (omega (arith, numbers-length (length a.e.now)))
    (omega (arith, l.invariant.few, c.requires))
    l.invariant

pub returns : goal.returns
returns c =
    let a = c.args in
    let f : word a.from ≡ a.from = search rules in
    let t : word a.to ≡ a.to = search rules in
    subst₂ (λ (y z : ℤ). Passed (λ x. between y z (east_of a.e.now x)) (numbers (length a.e.now)) a.w.now 2 c.loop-x.k c.loop-x.w) f t
    (passing_all (λ x. between (word a.from) (word a.to) (east_of a.e.now x)) (numbers (length a.e.now)) a.w.now 2
    (omega (arith, numbers-length (length a.e.now))) c.loop-x.invariant)
