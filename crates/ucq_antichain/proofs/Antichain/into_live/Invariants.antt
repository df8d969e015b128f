use Rattle.std.proofs.Common.{◌≡◌, ◌≤◌, ◌+◌, length, vec_len}
use Rattle.std.specs.Vec.{vec_capacity}
use Rattle.ucq_antichain.specs.Rows.{live_queries}
use Rattle.ucq_antichain.proofs.Antichain.into_live.Given as goal

abbrev pub invariant-loop-row : goal.invariant-loop-row
invariant-loop-row l = record {
  live : l.live.items ≡ live_queries l.yielded;
  few : vec_len l.live ≤ length l.yielded;
  room : length l.yielded + length l.row-iterator.rest.items ≤ vec_capacity l.live;
  next : (goal.iterator-loop-row).can_next l.row-iterator;
  finite : (goal.iterator-loop-row).is_finite l.row-iterator;
}
