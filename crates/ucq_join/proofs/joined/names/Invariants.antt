use Rattle.ucq_join.specs.inner.Naming.{AreNames}
use Rattle.ucq_join.proofs.joined.names.Given as goal

abbrev pub invariant-loop-number : goal.invariant-loop-number
invariant-loop-number l = AreNames l.classes.numbers.constants l.classes.labels l.number l.names.items
