use Rattle.ucq_eval.proofs.Unique.{answers_unique}
use Rattle.ucq_eval.proofs.laws.answers_are_unique.Goals as goal

pub returns : goal.returns
returns c = λ names union facts one two a b. answers_unique names union facts one two a b
