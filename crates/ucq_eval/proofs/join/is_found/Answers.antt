use Rattle.std.proofs.Common.{sym, ◌∙◌}
use Rattle.ucq_eval.proofs.Tuples.{held-found, found-held}
use Rattle.ucq_eval.proofs.join.is_found.Goals as goal

pub returns : goal.returns
returns c = (
  λ e. held-found (λ t. t.items) c.args.found.now.keys c.args.tuple.now (sym c.contains.ensures ∙ e),
  λ i. c.contains.ensures ∙ found-held (λ t. t.items) c.args.found.now.keys c.args.tuple.now i,
)
