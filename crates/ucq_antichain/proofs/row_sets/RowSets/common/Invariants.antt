use Rattle.std.proofs.Common.{◌≡◌, ℕ, ◌/◌, ◌%◌, ◌<◌, get_or}
use Rattle.std.specs.Int.{bit_at}
use Rattle.ucq_antichain.specs.inner.Sets.{IsIn}
use Rattle.ucq_antichain.proofs.row_sets.RowSets.common.Given as goal

abbrev pub invariant-loop-mark : goal.invariant-loop-mark
invariant-loop-mark l = (r : ℕ) → r / 64 ≡ l.word → bit_at l.among (r % 64) ≡ 1 → ((k : ℕ) → k < l.mark-index → IsIn l.self (get_or l.marks k 0) r) → bit_at l.rows (r % 64) ≡ 1
