use Rattle.std.proofs.Common.{◌≡◌, ◌+◌, length}
use Rattle.ucq_board.specs.Values.{IsSeatOf}
use Rattle.ucq_pool.proofs.crew.rise_all.Given as goal

abbrev pub invariant-loop-job : goal.invariant-loop-job
invariant-loop-job g l = record {
  count : l.first.view.spare ≡ l.initial.first.view.spare + length l.yielded;
  first : IsSeatOf l.board l.first;
}
