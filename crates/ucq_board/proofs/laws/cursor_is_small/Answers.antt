use Rattle.ucq_board.proofs.Told.{cursor_is_small}
use Rattle.ucq_board.proofs.laws.cursor_is_small.Goals as goal

pub returns : goal.returns
returns c = cursor_is_small
