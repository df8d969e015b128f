use Rattle.std.proofs.Common.{◌∙◌, ap}
use Rattle.ucq_board.specs.Values.{SeatValue}
use Rattle.ucq_board.proofs.Draws.{draws}
use Rattle.ucq_board.proofs.Fits.{one_table, has_words}
use Rattle.ucq_board.proofs.board.Board.draw_next.Goals as goal

pub fetch_add-found-requires : goal.fetch_add-found-requires
fetch_add-found-requires c = (
  one_table _ _ _ _ _ _ _ c.seat.view_is c.self.view_is c.requires.board,
  (has_words c.self.inside.table.shared.table_id _ c.self.invariant.words).0,
  draws _ _ _ _ _ c.seat.invariant.0.unspent (ap (λ (s : SeatValue). s.view.ended) c.seat.view_is ∙ c.requires.going),
)
