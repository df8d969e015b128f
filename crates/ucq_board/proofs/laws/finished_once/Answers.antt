use Rattle.ucq_board.proofs.Told.{finished_once}
use Rattle.ucq_board.proofs.laws.finished_once.Goals as goal

pub returns : goal.returns
returns c = finished_once
