use Rattle.std.proofs.Common.{arith, ap}
use Rattle.ucq_board.specs.Values.{SeatValue}
use Rattle.ucq_board.proofs.Halves.{splits}
use Rattle.ucq_board.proofs.Fits.{one_table, has_words}
use Rattle.ucq_board.proofs.board.Board.split.Goals as goal

pub split_seat-inner-requires : goal.split_seat-inner-requires
split_seat-inner-requires c =
    let spare = ap (λ (s : SeatValue). s.view.spare) c.seat.view_is in
    let some = c.requires.spare in (
      one_table _ _ _ _ _ _ _ c.seat.view_is c.self.view_is c.requires.board,
      (has_words c.self.inside.table.shared.table_id _ c.self.invariant.words).0,
      splits _ _ _ c.seat.invariant.0.unspent (omega arith),
    )
