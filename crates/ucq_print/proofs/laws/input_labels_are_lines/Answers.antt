use Rattle.ucq_print.proofs.InputLabels.{input_labels}
use Rattle.ucq_print.proofs.laws.input_labels_are_lines.Goals as goal

pub returns : goal.returns
returns c = λ files input h. input_labels files input h
