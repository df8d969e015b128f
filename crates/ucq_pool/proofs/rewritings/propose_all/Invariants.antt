use Rattle.ucq_hom.specs.Space.{IsClear}
use Rattle.ucq_pool.specs.Rewritings.{AreProposed}
use Rattle.ucq_pool.proofs.rewritings.propose_all.Given as goal

abbrev pub invariant-loop-core : goal.invariant-loop-core
invariant-loop-core g l = record {
  clear : IsClear l.space;
  proposed : AreProposed l.initial.candidates.items l.yielded l.candidates.items;
}
