use Rattle.ucq_store.specs.Store.{query_of, state_of}
use Rattle.ucq_tally.specs.inner.Sums.{IsSaturated, IsSumOf}
use Rattle.ucq_tally.specs.inner.Counts.{AddsRewritings}
use Rattle.ucq_tally.proofs.counting.rewritings_of_store.Given as goal

abbrev pub invariant-loop-row : goal.invariant-loop-row
invariant-loop-row l = IsSaturated (IsSumOf (λ row count. AddsRewritings l.store.problem.rules (state_of l.store row) (query_of l.store row) count) l.row) l.total
