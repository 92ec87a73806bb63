use Rattle.std.proofs.Common.{◌+◌, ◌*◌}
use Rattle.step.proofs.+chain_step.Given as goal

abbrev pub decreases-chain : goal.decreases-chain
decreases-chain l = 2 * l.t + 1

abbrev pub decreases-step : goal.decreases-step
decreases-step l = 2 * l.t
