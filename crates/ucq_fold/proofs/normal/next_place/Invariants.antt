use Rattle.std.proofs.Common.{◌<◌, length}
use Rattle.ucq_fold.proofs.normal.next_place.Given as goal

abbrev pub invariant-loop-i : goal.invariant-loop-i
invariant-loop-i l = l.best < length l.order
