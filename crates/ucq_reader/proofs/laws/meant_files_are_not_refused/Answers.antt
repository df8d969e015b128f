use Rattle.ucq_reader.proofs.Meanings.{never_refused}
use Rattle.ucq_reader.proofs.laws.meant_files_are_not_refused.Goals as goal

pub returns : goal.returns
returns c = λ files meant fault is refused. never_refused files meant fault is refused
