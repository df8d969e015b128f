use Rattle.ucq_print.proofs.Stored.{stored_is_printable}
use Rattle.ucq_print.proofs.laws.stored_are_printable.Goals as goal

pub returns : goal.returns
returns c = λ names q stored held. stored_is_printable names q stored held
