use Rattle.std.proofs.Common.{ℕ, ◌<◌}
use Rattle.ucq_hom.specs.Space.{IsClear}
use Rattle.ucq_fold.specs.Parts.{CanSpare}
use Rattle.ucq_fold.proofs.shrinking.may_fold.Given as goal

abbrev pub invariant-loop-place : goal.invariant-loop-place
invariant-loop-place l = record {
  clear : IsClear l.space;
  needed : (k : ℕ) → k < l.place → CanSpare l.query k → ⊥;
}
