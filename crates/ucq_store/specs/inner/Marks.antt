-- The marks of rows, as the store's own calls see them.
use Rattle.std.specs.Prelude.{◌≢◌, ℕ, ◌<◌, ◌≤◌, List, length, slice_set}
use Rattle.ucq_store.specs.declared.RowState.{RowState}
use Rattle.ucq_store.specs.declared.RowState.TheVariants.{Waiting, Open, Claimed, Done, Skipped}
use Rattle.ucq_store.specs.declared.Mark.{Mark}
use Rattle.ucq_store.specs.Store.{mark_at}

-- marks in order, and how many there is room for
pub record MarkList : Type 0 where
  pub items : List Mark
  pub room : ℕ

-- the marks with the state of a row changed
abbrev pub with_state_at : List Mark → ℕ → RowState → List Mark
with_state_at marks row state = slice_set marks row (record { depth = (mark_at marks row).depth; state = state })

-- no row before that one is open
pub record NoneOpenBelow (marks : List Mark) (row : ℕ) : Type 0 where
  pub each : (earlier : ℕ) → earlier < row → (mark_at marks earlier).state ≢ Open

-- a row of which nothing is to be done any more
abbrev pub IsSettled : RowState → Type 0
IsSettled Waiting = ⊥
IsSettled Open = ⊥
IsSettled (Claimed number) = ⊥
IsSettled Done = Unit {0}
IsSettled Skipped = Unit {0}

-- each row before that one is settled
pub record AreSettledBelow (marks : List Mark) (row : ℕ) : Type 0 where
  pub within : row ≤ length marks
  pub each : (earlier : ℕ) → earlier < row → IsSettled (mark_at marks earlier).state
