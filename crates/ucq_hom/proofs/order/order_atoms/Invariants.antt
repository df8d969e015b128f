use Rattle.ucq_hom.specs.Search.{IsOrder}
use Rattle.ucq_hom.proofs.order.order_atoms.Given as goal

abbrev pub invariant-loop-i : goal.invariant-loop-i
invariant-loop-i l = IsOrder l.atoms l.order
