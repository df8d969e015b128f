use Rattle.ucq_print.proofs.InputNames.{input_names}
use Rattle.ucq_print.proofs.laws.input_names_are_readable.Goals as goal

pub returns : goal.returns
returns c = λ files input h. input_names files input h
