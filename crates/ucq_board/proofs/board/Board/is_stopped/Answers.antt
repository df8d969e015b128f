use Rattle.ucq_board.proofs.Asks.{asks_stop}
use Rattle.ucq_board.proofs.Fits.{one_table, has_words}
use Rattle.ucq_board.proofs.board.Board.is_stopped.Goals as goal

pub load-requires : goal.load-requires
load-requires c = (
  one_table _ _ _ _ _ _ _ c.seat.view_is c.self.view_is c.requires.board,
  (has_words c.self.inside.table.shared.table_id _ c.self.invariant.words).1,
  asks_stop _ _ _ _ _ c.seat.invariant.0.unspent,
)
