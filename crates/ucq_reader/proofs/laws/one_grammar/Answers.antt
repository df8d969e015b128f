use Rattle.ucq_reader.proofs.Reading.{statements_unique}
use Rattle.ucq_reader.proofs.laws.one_grammar.Goals as goal

pub returns : goal.returns
returns c = λ words a b p q. statements_unique words a b p q
