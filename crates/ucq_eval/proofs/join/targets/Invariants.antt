use Rattle.ucq_eval.specs.inner.Join.{AreTargets}
use Rattle.ucq_eval.proofs.join.targets.Given as goal

abbrev pub invariant-loop-place : goal.invariant-loop-place
invariant-loop-place l = AreTargets l.bindings l.facts l.atom l.best
