use Rattle.std.proofs.Common.{◌≡◌, ◌≤◌, length, take}
use Rattle.ucq_antichain.specs.Rows.{live_queries}
use Rattle.ucq_print.proofs.finished.live_count.Given as goal

abbrev pub invariant-loop-row : goal.invariant-loop-row
invariant-loop-row g l = record {
  live : l.count ≡ length (live_queries (take l.row (g.R.Rows.value l.rows).rows));
  few : l.count ≤ l.row;
}
