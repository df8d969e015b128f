use Rattle.std.proofs.Common.{◌≢◌, ℕ, ◌<◌}
use Rattle.ucq_store.specs.declared.RowState.TheVariants.{Waiting}
use Rattle.ucq_antichain.specs.Rows.{IsLiveAt}
use Rattle.ucq_store.specs.Store.{mark_at}
use Rattle.ucq_store.proofs.marks.Marks.does_any_wait.Given as goal

abbrev pub invariant-loop-row : goal.invariant-loop-row
invariant-loop-row l = (k : ℕ) → k < l.row → IsLiveAt l.antichain.rows k → (mark_at l.self-inside.items.items k).state ≢ Waiting
