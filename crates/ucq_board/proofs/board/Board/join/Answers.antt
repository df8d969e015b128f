use Rattle.std.proofs.Common.{◌∙◌, ap}
use Rattle.ucq_board.proofs.Halves.{joins}
use Rattle.ucq_board.proofs.Asks.{looks}
use Rattle.ucq_board.proofs.Fits.{one_table, has_words}
use Rattle.ucq_board.proofs.board.Board.join.Goals as goal

pub join_seat-requires : goal.join_seat-requires
join_seat-requires c = (
  one_table _ _ _ _ _ _ _ c.seat.view_is c.self.view_is c.requires.board,
  one_table _ _ _ _ _ _ _ c.other.view_is c.self.view_is c.requires.other,
  c.other.invariant.1,
  (has_words c.self.inside.table.shared.table_id _ c.self.invariant.words).0,
  joins _ _ _ _ _ c.seat.invariant.0.unspent c.other.invariant.0.unspent,
)

pub load-requires : goal.load-requires
load-requires c =
    let e = c.join_seat.ensures in (
      e.0 ∙ one_table _ _ _ _ _ _ _ c.seat.view_is c.self.view_is c.requires.board,
      (has_words c.self.inside.table.shared.table_id _ c.self.invariant.words).0,
      looks _ _ _ _ _ (ap (λ m. m.0.spent) e.2 ∙ c.seat.invariant.0.unspent),
    )
