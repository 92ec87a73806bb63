use Rattle.std.proofs.Common.{◌≡◌, ℤ, length, set, length-set, ◌∙◌, subst₂, arith, rules}
use Rattle.laws_rounds.specs.WholeList.{numbers, numbers-length}
use Rattle.samples.specs.Positions.{east_of}
use Rattle.step.specs.NumberLists.{between, Passed}
use Rattle.step.proofs.SignedWords.{word}
use Rattle.step.proofs.Passing.{two_then}
use Rattle.step.proofs.lists.first.Goals as goal

pub overflow_add-result : goal.overflow_add-result
overflow_add-result c = omega (arith, c.inner.ensures.few, numbers-length (length c.args.e.now))

pub returns : goal.returns
returns c =
    let a = c.args in
    let f : word c.east.result ≡ c.east.result = search rules in
    let t : word c.east-2.result ≡ c.east-2.result = search rules in
    two_then a.w.now (omega (arith, numbers-length (length a.e.now))) (c.inner.auto.w ∙ simp length-set)
    (subst₂ (λ (y z : ℤ). Passed (λ x. between y z (east_of a.e.now x)) (numbers (length a.e.now)) (set (set a.w.now 0 a.p) 1 a.q) 2 c.inner.result c.inner.new.w)
    (f ∙ c.east.ensures) (t ∙ c.east-2.ensures) c.inner.ensures)
