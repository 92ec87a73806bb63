-- The numbers written are those below n, in order.
use Rattle.std.specs.Prelude.{◌<◌, take}
use Rattle.std.proofs.Common.{sym, ◌∙◌, arith, get_or-take, length-take-le}
use Rattle.std.proofs.lemmas.List.{ext_get_or}
use Rattle.laws_rounds.specs.WholeList.{numbers, numbers-length, numbers-at}
use Rattle.bridge.proofs.number.Goals as goal

pub returns : goal.returns
returns c =
    let l = c.loop-i in
    let n = c.args.n in
    let long = l.auto.w in
    let fits = c.requires.0 in
    let taken = length-take-le n l.w (omega arith) in
    ext_get_or 0 (take n l.w) (numbers n) (taken ∙ sym (numbers-length n))
    (λ j h. let below : j < n = omega arith in
    get_or-take n l.w j 0 below ∙ l.invariant j (omega arith) ∙ sym (numbers-at n j 0 below))
