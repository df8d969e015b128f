use Rattle.std.proofs.Common.{◌≡◌, ◌⊎◌, []}
use Rattle.ucq_join.specs.Walk.{IsJoinOf}
use Rattle.ucq_step.proofs.Ranks.{left_of}
use Rattle.ucq_step.specs.inner.Walked.{WalksIn}
use Rattle.ucq_tally.specs.inner.Sums.{IsSaturated}
use Rattle.ucq_tally.proofs.Walked.{HasCounted}
use Rattle.ucq_tally.proofs.counting.rewritings.Given as goal

abbrev pub invariant-loop-joins : goal.invariant-loop-joins
invariant-loop-joins l = record {
  walks : WalksIn l.joins l.query l.rule l.initial.joins.pieces;
  here : (l.joins.present ≡ []) ⊎ IsJoinOf l.joins l.joins.present;
  counted : IsSaturated (HasCounted l.joins) l.count;
}

abbrev pub decreases-loop-joins : goal.decreases-loop-joins
decreases-loop-joins l = left_of l.joins
