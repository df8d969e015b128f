use Rattle.std.proofs.Common.{ℕ, ◌<◌}
use Rattle.ucq_terms.specs.Unifier.{KeepsPredicate}
use Rattle.ucq_unify.proofs.search.fits_some.Given as goal

abbrev pub invariant-loop-head : goal.invariant-loop-head
invariant-loop-head l = (k : ℕ) → k < l.head → ¬ KeepsPredicate l.query l.rule (l.place, k)
