use Rattle.std.proofs.Common.{◌≡◌}
use Rattle.ucq_board.specs.Values.{IsSeatOf}
use Rattle.ucq_rows_store.proofs.boards.work.Given as goal

abbrev pub invariant-loop : goal.invariant-loop
invariant-loop l = record {
  board : IsSeatOf l.board l.seat;
  spare : l.seat.view.spare ≡ l.initial.seat.view.spare;
}
