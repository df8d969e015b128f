use Rattle.ucq_print.proofs.Unions.{finished_tells}
use Rattle.ucq_print.proofs.laws.finished_text_tells_union.Goals as goal

pub returns : goal.returns
returns c = λ names one two readable h k e. finished_tells names readable one two h k e
