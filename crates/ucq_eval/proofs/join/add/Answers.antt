-- The inserted key holds the tuple.
use Rattle.ucq_eval.proofs.Tuples.{IsGrownBy-inserted}
use Rattle.ucq_eval.proofs.join.add.Goals as goal

pub returns : goal.returns
returns c = rw c.in_ok-_added.ensures.keys (IsGrownBy-inserted (λ t. t.items) c.args.found.now.keys c.in_ok-held.held c.args.tuple.now c.in_ok-held.ensures.items)
