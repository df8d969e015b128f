use Rattle.std.proofs.Common.{ℕ, ◌<◌}
use Rattle.ucq_store.specs.Store.{mark_at, IsInWork}
use Rattle.ucq_store.proofs.marks.Marks.is_any_in_work.Given as goal

abbrev pub invariant-loop-row : goal.invariant-loop-row
invariant-loop-row l = (k : ℕ) → k < l.row → ¬ IsInWork (mark_at l.self-inside.items.items k).state
