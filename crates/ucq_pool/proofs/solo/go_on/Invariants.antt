use Rattle.std.proofs.Common.{◌≡◌}
use Rattle.ucq_hom.specs.Space.{IsClear}
use Rattle.ucq_pool.specs.inner.Progress.{IsAtRest, IsSameTask, work_left}
use Rattle.ucq_pool.proofs.solo.go_on.Given as goal

abbrev pub invariant-loop-store : goal.invariant-loop-store
invariant-loop-store l = record {
  clear : IsClear l.space;
  rest : IsAtRest l.store;
  problem : l.store.problem ≡ l.problem;
  task : IsSameTask l.initial.store l.store;
}

abbrev pub decreases-loop-store : goal.decreases-loop-store
decreases-loop-store l = work_left l.store
