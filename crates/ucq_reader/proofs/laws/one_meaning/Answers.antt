use Rattle.ucq_reader.proofs.Refusals.{meaning_unique}
use Rattle.ucq_reader.proofs.laws.one_meaning.Goals as goal

pub returns : goal.returns
returns c = λ files a b p q. meaning_unique files a b p q
