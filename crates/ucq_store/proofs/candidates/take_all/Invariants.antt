use Rattle.ucq_hom.specs.Space.{IsClear}
use Rattle.ucq_store.proofs.Delivered.{AreTakenBefore}
use Rattle.ucq_store.proofs.candidates.take_all.Given as goal

abbrev pub invariant-loop-place : goal.invariant-loop-place
invariant-loop-place l = record {
  clear : IsClear l.initial.space → IsClear l.space;
  taken : AreTakenBefore l.initial.store l.row l.initial.candidates l.store l.candidates l.place;
}
