use Rattle.std.proofs.Common.{◌≤◌, ◌-◌}
use Rattle.ucq_antichain.proofs.index.count_beside.Given as goal

abbrev pub invariant-loop-second : goal.invariant-loop-second
invariant-loop-second l = l.second ≤ 128

abbrev pub decreases-loop-second : goal.decreases-loop-second
decreases-loop-second l = 128 - l.second
