use Rattle.ucq_eval.proofs.Sorting.{have_texts, ordered}
use Rattle.ucq_eval.proofs.order.in_order.Goals as goal

pub returns-clause-order : goal.returns-clause-order
returns-clause-order c = ordered c.args.names.now _ c.in_ok-all.all.items c.sort_unstable.new.self.items c.in_ok-all.ensures c.differ.ensures c.sort_unstable.ensures.permutation c.sort_unstable.ensures.sorted

pub returns-clause-texts : goal.returns-clause-texts
returns-clause-texts c = have_texts c.args.names.now _ c.in_ok-all.all.items c.sort_unstable.new.self.items c.in_ok-all.ensures c.sort_unstable.ensures.permutation
