use Rattle.ucq_store.proofs.Moments.{stay_covered}
use Rattle.ucq_store.proofs.laws.stay_covered.Goals as goal

pub returns : goal.returns
returns c = stay_covered
