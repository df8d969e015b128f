use Rattle.ucq_chase.proofs.Kept.{numbering_keeps_exact, equivalent_keeps_exact}
use Rattle.ucq_chase.proofs.exact_is_kept.Goals as goal

pub returns-clause-numbering : goal.returns-clause-numbering
returns-clause-numbering c = numbering_keeps_exact

pub returns-clause-equivalent : goal.returns-clause-equivalent
returns-clause-equivalent c = equivalent_keeps_exact
