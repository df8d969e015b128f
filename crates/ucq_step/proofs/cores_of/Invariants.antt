use Rattle.std.proofs.Common.{◌≡◌, ◌⊎◌, []}
use Rattle.ucq_hom.specs.Space.{IsClear}
use Rattle.ucq_join.specs.Walk.{IsJoinOf}
use Rattle.ucq_step.specs.inner.Walked.{WalksIn, AreFoundTo}
use Rattle.ucq_step.proofs.Ranks.{left_of}
use Rattle.ucq_step.proofs.cores_of.Given as goal

abbrev pub invariant-loop-found : goal.invariant-loop-found
invariant-loop-found l = record {
  clear : IsClear l.space;
  walks : WalksIn l.joins l.query l.rule l.pieces;
  here : (l.joins.present ≡ []) ⊎ IsJoinOf l.joins l.joins.present;
  so_far : AreFoundTo l.joins l.found.forms l.found.cores;
}

abbrev pub decreases-loop-found : goal.decreases-loop-found
decreases-loop-found l = left_of l.joins
