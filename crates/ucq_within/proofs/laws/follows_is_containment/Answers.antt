use Rattle.ucq_within.proofs.Following.{follows_is_containment}
use Rattle.ucq_within.proofs.laws.follows_is_containment.Goals as goal

pub returns : goal.returns
returns c = follows_is_containment
