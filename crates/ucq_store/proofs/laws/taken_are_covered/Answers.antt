use Rattle.ucq_store.proofs.Taking.{taken_are_covered}
use Rattle.ucq_store.proofs.laws.taken_are_covered.Goals as goal

pub returns : goal.returns
returns c = taken_are_covered
