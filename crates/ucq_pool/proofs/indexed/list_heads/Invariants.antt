use Rattle.ucq_pool.specs.inner.ByHead.{AreListedBefore}
use Rattle.ucq_pool.proofs.indexed.list_heads.Given as goal

abbrev pub invariant-loop-place : goal.invariant-loop-place
invariant-loop-place l = AreListedBefore l.rule.heads l.place l.number l.initial.lists l.lists
