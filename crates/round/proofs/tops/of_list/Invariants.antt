use Rattle.std.proofs.Common.{length, ◌-◌}
use Rattle.std.specs.Prelude.{neg_ℤ}
use Rattle.samples.specs.Sides.{seen}
use Rattle.round.specs.Tops.{as_scaled, key}
use Rattle.round.proofs.Topping.{Leads, NoHigher}
use Rattle.round.proofs.tops.of_list.Given as goal

abbrev pub invariant-loop-i : goal.invariant-loop-i
invariant-loop-i l =
    let k = as_scaled l.scaled in
    (Leads (λ x. key neg_ℤ k (seen l.side x)) l.list l.i l.left × Leads (λ x. key (λ z. z) k (seen l.side x)) l.list l.i l.right)
    × NoHigher (seen l.side) k l.left.number l.right.number

abbrev pub decreases-loop-i : goal.decreases-loop-i
decreases-loop-i l = length l.list - l.i
