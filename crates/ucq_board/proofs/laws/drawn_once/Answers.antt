use Rattle.ucq_board.proofs.Told.{drawn_once}
use Rattle.ucq_board.proofs.laws.drawn_once.Goals as goal

pub returns : goal.returns
returns c = drawn_once
