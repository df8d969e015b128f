use Rattle.ucq_pool.specs.inner.ByHead.{AreListedBelow}
use Rattle.ucq_pool.proofs.indexed.listed_heads.Given as goal

abbrev pub invariant-loop-number : goal.invariant-loop-number
invariant-loop-number l = AreListedBelow l.rules l.number l.lists
