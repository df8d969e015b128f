use Rattle.std.proofs.Common.{◌≡◌, ℕ, ◌<◌, ◌≤◌}
use Rattle.ucq_antichain.specs.Rows.{row_at}
use Rattle.ucq_store.specs.Store.{mark_at}
use Rattle.ucq_store.specs.Changes.{raised}
use Rattle.ucq_store.proofs.marks.raise_from.Given as goal

abbrev pub invariant-loop-row : goal.invariant-loop-row
invariant-loop-row l =
    ((k : ℕ) → k < l.row → mark_at l.marks k ≡ record { depth = (mark_at l.initial.marks k).depth; state = raised (mark_at l.initial.marks k).state (row_at l.antichain.rows k).live })
    × ((k : ℕ) → l.row ≤ k → mark_at l.marks k ≡ mark_at l.initial.marks k)
