use Rattle.std.proofs.Common.{◌≢◌, ℕ, ◌<◌}
use Rattle.ucq_store.specs.declared.RowState.TheVariants.{Open}
use Rattle.ucq_store.specs.Store.{mark_at}
use Rattle.ucq_store.proofs.marks.first_open_from.Given as goal

abbrev pub invariant-loop-row : goal.invariant-loop-row
invariant-loop-row l = (k : ℕ) → k < l.row → (mark_at l.marks k).state ≢ Open
