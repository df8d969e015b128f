use Rattle.ucq_store.specs.inner.Marks.{AreSettledBelow}
use Rattle.ucq_store.proofs.marks.first_unsettled.Given as goal

abbrev pub invariant-loop-row : goal.invariant-loop-row
invariant-loop-row l = AreSettledBelow l.marks l.row
