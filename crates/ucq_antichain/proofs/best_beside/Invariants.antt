use Rattle.std.proofs.Common.{◌≤◌, ◌-◌}
use Rattle.ucq_hom.specs.Space.{IsClear}
use Rattle.ucq_antichain.specs.inner.Walks.{IsBest}
use Rattle.ucq_antichain.proofs.Walked.{BesideBelow}
use Rattle.ucq_antichain.proofs.best_beside.Given as goal

abbrev pub invariant-loop-second : goal.invariant-loop-second
invariant-loop-second l = record {
  clear : IsClear l.space;
  low : l.second ≤ 128;
  best : IsBest l.rows l.query l.found;
  earlier : l.found ≤ l.best;
  none : BesideBelow l.rows l.query l.index.chains l.marked.second l.first l.second l.found;
}

abbrev pub decreases-loop-second : goal.decreases-loop-second
decreases-loop-second l = 128 - l.second
