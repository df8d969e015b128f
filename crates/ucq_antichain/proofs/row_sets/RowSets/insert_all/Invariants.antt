use Rattle.std.proofs.Common.{ℕ, ◌<◌, get_or}
use Rattle.ucq_antichain.specs.inner.Sets.{IsIn, Keeps}
use Rattle.ucq_antichain.proofs.row_sets.RowSets.insert_all.Given as goal

abbrev pub invariant-loop-mark : goal.invariant-loop-mark
invariant-loop-mark l = record {
  has : (k : ℕ) → k < l.mark-index → IsIn l.self (get_or l.marks k 0) l.row;
  keeps : Keeps l.fn.self l.self;
}
