use Rattle.std.proofs.Common.{ℕ, ◌<◌}
use Rattle.ucq_terms.specs.Homomorphism.{Covers}
use Rattle.ucq_hom.specs.Space.{IsClear}
use Rattle.ucq_store.specs.Store.{query_of}
use Rattle.ucq_within.proofs.containment.first_covering.Given as goal

abbrev pub invariant-loop-row : goal.invariant-loop-row
invariant-loop-row l = record {
  none : (earlier : ℕ) → earlier < l.row → ¬ Covers (query_of l.of earlier) l.query;
  clear : IsClear l.space;
}
