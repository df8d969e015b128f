use Rattle.ucq_store.specs.Store.{query_of, state_of}
use Rattle.ucq_tally.specs.inner.Counts.{AddsRewritings}
use Rattle.ucq_tally.proofs.Saturated.{IsSaturated-more}
use Rattle.ucq_tally.proofs.counting.rewritings_of_store.Goals as goal

pub loop-row-preserved : goal.loop-row-preserved
loop-row-preserved c =
    IsSaturated-more (λ row count. AddsRewritings c.args.store.now.problem.rules (state_of c.args.store.now row) (query_of c.args.store.now row) count)
    c.loop-row.row c.loop-row.total c.in_ok-rewritings_of_row.field-0 c.saturating_add-total.result c.loop-row.invariant c.in_ok-rewritings_of_row.ensures
    c.saturating_add-total.ensures
