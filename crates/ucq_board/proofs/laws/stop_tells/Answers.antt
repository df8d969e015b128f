use Rattle.ucq_board.proofs.Told.{stop_tells}
use Rattle.ucq_board.proofs.laws.stop_tells.Goals as goal

pub returns : goal.returns
returns c = stop_tells
