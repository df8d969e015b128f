use Rattle.std.proofs.Common.{ℕ, ◌<◌}
use Rattle.ucq_terms.specs.Homomorphism.{Covers}
use Rattle.ucq_hom.specs.Space.{IsClear}
use Rattle.ucq_log.specs.Log.{query_at}
use Rattle.ucq_log.proofs.Log.first_cover.Given as goal

abbrev pub invariant-loop-place : goal.invariant-loop-place
invariant-loop-place l = record {
  clear : IsClear l.space;
  uncovered : (k : ℕ) → k < l.place → ¬ Covers (query_at l.entries k) l.query;
}
