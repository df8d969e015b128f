use Rattle.ucq_board.proofs.Told.{drawn_below}
use Rattle.ucq_board.proofs.laws.drawn_below.Goals as goal

pub returns : goal.returns
returns c = drawn_below
