use Rattle.std.proofs.Common.{◌<◌, length}
use Rattle.ucq_hom.proofs.order.most_bound.Given as goal

abbrev pub invariant-loop-i : goal.invariant-loop-i
invariant-loop-i l = l.best < length l.order
