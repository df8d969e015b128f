use Rattle.std.proofs.Common.{◌≡◌, ◌≤◌, ◌<◌, ◌-◌, ◌⊎◌}
use Rattle.std.specs.Int.{bit_at}
use Rattle.ucq_antichain.specs.inner.Index.{IsKeyBeside}
use Rattle.ucq_antichain.proofs.index.rarest_beside.Given as goal

abbrev pub invariant-loop-second : goal.invariant-loop-second
invariant-loop-second l = record {
  best : (l.best ≡ l.key) ⊎ IsKeyBeside l.others l.first l.best;
  low : l.second ≤ 128;
  bit : l.second < 128 → bit_at l.others l.second ≡ 1;
}

abbrev pub decreases-loop-second : goal.decreases-loop-second
decreases-loop-second l = 128 - l.second
