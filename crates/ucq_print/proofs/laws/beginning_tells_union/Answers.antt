use Rattle.ucq_print.proofs.Unions.{beginning_apart}
use Rattle.ucq_print.proofs.laws.beginning_tells_union.Goals as goal

pub returns : goal.returns
returns c = λ names one two x y readable h k e. let tells = beginning_apart names readable one two x y h k e in (tells.front, tells.rest)
