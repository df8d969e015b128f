use Rattle.std.proofs.Common.{◌≡◌, sum, take}
use Rattle.ucq_classes.proofs.numbering.total.Given as goal

abbrev pub invariant-loop-i : goal.invariant-loop-i
invariant-loop-i l = l.total ≡ sum (take l.i l.numbers)
