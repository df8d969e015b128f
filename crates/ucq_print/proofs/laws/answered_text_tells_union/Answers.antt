use Rattle.ucq_print.proofs.Unions.{answered_apart}
use Rattle.ucq_print.proofs.laws.answered_text_tells_union.Goals as goal

pub returns : goal.returns
returns c = λ names one two answers_one answers_two x y readable h k i j e. answered_apart names readable one two answers_one answers_two x y h k i j e
