use Rattle.std.proofs.Common.{◌≡◌, ℕ, ◌<◌, ◌≤◌}
use Rattle.ucq_store.specs.Store.{mark_at}
use Rattle.ucq_store.specs.Changes.{reopened}
use Rattle.ucq_store.proofs.marks.reopen_from.Given as goal

abbrev pub invariant-loop-row : goal.invariant-loop-row
invariant-loop-row l =
    ((k : ℕ) → k < l.row → mark_at l.marks k ≡ record { depth = (mark_at l.initial.marks k).depth; state = reopened (mark_at l.initial.marks k).state })
    × ((k : ℕ) → l.row ≤ k → mark_at l.marks k ≡ mark_at l.initial.marks k)
