use Rattle.ucq_terms.specs.Rewriting.{rule_at}
use Rattle.ucq_tally.specs.inner.Sums.{IsSaturated, IsSumOf}
use Rattle.ucq_tally.specs.inner.Counts.{HasRewritings}
use Rattle.ucq_tally.proofs.counting.rewritings_with_all.Given as goal

abbrev pub invariant-loop-place : goal.invariant-loop-place
invariant-loop-place l = IsSaturated (IsSumOf (λ place count. HasRewritings l.query (rule_at l.rules place) count) l.place) l.sum
