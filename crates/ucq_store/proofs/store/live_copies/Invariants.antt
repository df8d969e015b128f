use Rattle.std.proofs.Common.{◌≡◌, ◌≤◌, take, vec_len}
use Rattle.ucq_antichain.specs.Rows.{live_queries}
use Rattle.ucq_store.proofs.store.live_copies.Given as goal

abbrev pub invariant-loop-row : goal.invariant-loop-row
invariant-loop-row l = record {
  live : l.live.items ≡ live_queries (take l.row l.antichain.rows);
  few : vec_len l.live ≤ l.row;
}
