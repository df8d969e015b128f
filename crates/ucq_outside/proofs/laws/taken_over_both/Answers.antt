use Rattle.ucq_outside.proofs.Taken.{all_then_all, all_then_prefix, prefix_of_more}
use Rattle.ucq_outside.proofs.laws.taken_over_both.Goals as goal

pub returns-clause-whole : goal.returns-clause-whole
returns-clause-whole c = all_then_all

pub returns-clause-part : goal.returns-clause-part
returns-clause-part c = all_then_prefix

pub returns-clause-more : goal.returns-clause-more
returns-clause-more c = prefix_of_more
