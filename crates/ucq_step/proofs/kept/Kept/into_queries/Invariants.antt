use Rattle.std.proofs.Common.{◌≡◌, ◌++◌}
use Rattle.ucq_step.proofs.kept.Kept.into_queries.Given as goal

abbrev pub invariant-loop-core : goal.invariant-loop-core
invariant-loop-core l = l.queries.items ++ l.core-iterator ≡ l.fn.self
