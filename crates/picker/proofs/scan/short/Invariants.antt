-- What has the rank that is still sought among the keys that are left has the rank r among all.
use Rattle.std.proofs.Common.{◌+◌, ◌-◌, leb, take}
use Rattle.laws_ranks.specs.Least.{Sought}
use Rattle.picker.proofs.scan.short.Given as goal

abbrev pub invariant-loop-taken : goal.invariant-loop-taken
invariant-loop-taken l = Sought leb l.initial.keys l.r (take (l.n + 1 - l.taken) l.keys) (l.r + 1 - l.taken)
