use Rattle.std.proofs.Common.{ℕ, ◌<◌}
use Rattle.ucq_terms.specs.Unifier.{KeepsPredicate}
use Rattle.ucq_unify.proofs.search.share_predicate.Given as goal

abbrev pub invariant-loop-place : goal.invariant-loop-place
invariant-loop-place l = (k head : ℕ) → k < l.place → ¬ KeepsPredicate l.query l.rule (k, head)
