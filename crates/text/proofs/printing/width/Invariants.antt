use Rattle.std.specs.Prelude.{◌≡◌, List, ℕ, suc, length}
use Rattle.text.specs.Naturals.{Left}
use Rattle.text.proofs.printing.width.Given as goal

abbrev pub invariant-loop-left : goal.invariant-loop-left
invariant-loop-left l = (after : List ℕ) × Left l.n l.left after × (l.digits ≡ suc (length after))

abbrev pub decreases-loop-left : goal.decreases-loop-left
decreases-loop-left l = l.left
