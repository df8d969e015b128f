use Rattle.std.proofs.Common.{take}
use Rattle.ucq_run.specs.Compared.{AreComparisons, others}
use Rattle.ucq_run.specs.inner.Comparing.{TellsBy}
use Rattle.ucq_run.proofs.compared.comparisons.Given as goal

abbrev pub invariant-loop-place : goal.invariant-loop-place
invariant-loop-place l = AreComparisons (TellsBy l.store) (others l.number (take l.place l.queries)) l.all.items
