use Rattle.std.proofs.Common.{◌≤◌, ◌<◌, length}
use Rattle.ucq_hom.specs.Space.{IsClear}
use Rattle.ucq_antichain.specs.inner.Walks.{IsBest}
use Rattle.ucq_antichain.proofs.Walked.{SoFar}
use Rattle.ucq_antichain.proofs.best_in_chain.Given as goal

abbrev pub invariant-loop-link : goal.invariant-loop-link
invariant-loop-link l = record {
  clear : IsClear l.space;
  within : l.link < length l.index.chains.next;
  best : IsBest l.rows l.query l.found;
  earlier : l.found ≤ l.best;
  seen : SoFar l.rows l.query l.index.chains l.from l.link l.found;
}

abbrev pub decreases-loop-link : goal.decreases-loop-link
decreases-loop-link l = l.link
