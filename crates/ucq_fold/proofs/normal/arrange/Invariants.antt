use Rattle.ucq_hom.specs.Search.{IsOrder}
use Rattle.ucq_fold.proofs.normal.arrange.Given as goal

abbrev pub invariant-loop-i : goal.invariant-loop-i
invariant-loop-i l = IsOrder l.query.atoms l.order
