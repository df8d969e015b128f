use Rattle.std.proofs.Common.{[]}
use Rattle.ucq_pool.specs.Rewritings.{AreProposed}
use Rattle.ucq_rows_store.proofs.reports.candidates.Given as goal

abbrev pub invariant-loop-core : goal.invariant-loop-core
invariant-loop-core l = AreProposed [] l.yielded l.all.items
