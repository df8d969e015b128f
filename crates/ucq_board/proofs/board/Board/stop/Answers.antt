use Rattle.ucq_board.proofs.Marks.{stops}
use Rattle.ucq_board.proofs.Fits.{one_table, has_words}
use Rattle.ucq_board.proofs.board.Board.stop.Goals as goal

pub fetch_or-requires : goal.fetch_or-requires
fetch_or-requires c = (
  one_table _ _ _ _ _ _ _ c.seat.view_is c.self.view_is c.requires.board,
  (has_words c.self.inside.table.shared.table_id _ c.self.invariant.words).1,
  stops _ _ _ _ _ c.seat.invariant.0.unspent,
)
