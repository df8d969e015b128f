use Rattle.ucq_bans.specs.inner.Search.{AreTargets}
use Rattle.ucq_bans.proofs.search.targets.Given as goal

abbrev pub invariant-loop-place : goal.invariant-loop-place
invariant-loop-place l = AreTargets l.bindings l.facts l.atom l.best
