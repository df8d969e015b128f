use Rattle.ucq_eval.proofs.Unique.{answers_chased}
use Rattle.ucq_eval.proofs.laws.answers_are_chase_answers.Goals as goal

pub returns : goal.returns
returns c = λ names problem union facts tuples exact answers tuple. answers_chased names problem union facts tuples exact answers tuple
