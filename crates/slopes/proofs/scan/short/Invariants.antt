use Rattle.std.proofs.Common.{◌≡◌, ◌-◌, length}
use Rattle.rules.specs.Round.{slope_le}
use Rattle.laws_ranks.specs.Least.{Sought}
use Rattle.slopes.specs.Fractions.{fractions, Pickable}
use Rattle.slopes.proofs.scan.short.Given as goal

-- i are taken out: what has the rank r less i among those that are left has the rank r among all
abbrev pub invariant-loop-i : goal.invariant-loop-i
invariant-loop-i l =
    Pickable (l.n - l.i) (l.r - l.i) l.w
    × (length l.w ≡ length l.fn.w)
    × Sought slope_le (fractions l.n l.fn.w) l.r (fractions (l.n - l.i) l.w) (l.r - l.i)
