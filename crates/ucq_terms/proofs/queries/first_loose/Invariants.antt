use Rattle.std.proofs.Common.{ℕ, ◌<◌}
use Rattle.ucq_terms.specs.Query.{IsLooseAt}
use Rattle.ucq_terms.proofs.queries.first_loose.Given as goal

abbrev pub invariant-loop-place : goal.invariant-loop-place
invariant-loop-place l = (k : ℕ) → k < l.place → ¬ IsLooseAt (record { answers = l.answers; atoms = l.atoms }) k
