use Rattle.ucq_hom.specs.Space.{IsClear}
use Rattle.ucq_pool.specs.Rewritings.{AreFoundBefore}
use Rattle.ucq_pool.proofs.rewritings.rewrite.Given as goal

abbrev pub invariant-loop-place : goal.invariant-loop-place
invariant-loop-place g l = record {
  clear : IsClear l.space;
  found : AreFoundBefore l.problem.rules l.numbers.items l.place l.query l.candidates.items;
}
