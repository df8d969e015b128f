use Rattle.std.proofs.Common.{◌≡◌, ◌≤◌, ◌+◌, vec_len}
use Rattle.ucq_board.specs.Values.{IsSeatOf}
use Rattle.ucq_pool.proofs.crew.seat_team.Given as goal

abbrev pub invariant-loop : goal.invariant-loop
invariant-loop g l = record {
  few : vec_len l.jobs ≤ l.counter;
  count : l.first.view.spare + vec_len l.jobs ≡ l.initial.first.view.spare;
  first : IsSeatOf l.board l.first;
}
