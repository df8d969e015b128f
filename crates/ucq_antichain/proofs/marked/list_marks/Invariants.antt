use Rattle.std.proofs.Common.{◌≡◌, ◌≤◌, ◌<◌, ◌-◌, length}
use Rattle.std.specs.Int.{bit_at}
use Rattle.ucq_antichain.proofs.Listed.{AreBelow}
use Rattle.ucq_antichain.proofs.marked.list_marks.Given as goal

abbrev pub invariant-loop-mark : goal.invariant-loop-mark
invariant-loop-mark l = record {
  below : AreBelow l.list l.count l.marks l.mark;
  size : length l.list ≡ 128;
  low : l.mark ≤ 128;
  bit : l.mark < 128 → bit_at l.marks l.mark ≡ 1;
}

abbrev pub decreases-loop-mark : goal.decreases-loop-mark
decreases-loop-mark l = 128 - l.mark
