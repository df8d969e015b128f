use Rattle.ucq_board.proofs.Told.{marks_tell}
use Rattle.ucq_board.proofs.laws.marks_tell.Goals as goal

pub returns : goal.returns
returns c = marks_tell
