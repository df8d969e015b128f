use Rattle.std.proofs.Common.{◌≡◌}
use Rattle.ucq_rows_steps.proofs.aggregates.walk.Given as goal

abbrev pub invariant-loop : goal.invariant-loop
invariant-loop l = record {
  query : l.joins.query ≡ l.query;
  rule : l.joins.rule ≡ l.rule;
}
