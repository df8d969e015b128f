-- A store, as contracts see it.
use Rattle.std.specs.Prelude.{◌≡◌, ◌≢◌, ℕ, ◌<◌, List, length, Option, None, IsSome, slice_index_or}
use Rattle.ucq_terms.specs.Syntax.{Query, Problem}
use Rattle.ucq_store.specs.declared.RowState.{RowState}
use Rattle.ucq_store.specs.declared.RowState.TheVariants.{Waiting, Open, Claimed, Done, Skipped}
use Rattle.ucq_store.specs.declared.Mark.{Mark}
use Rattle.ucq_store.specs.declared.Cut.{Cut}
use Rattle.ucq_antichain.specs.declared.Row.{Row}
use Rattle.ucq_antichain.specs.Rows.{query_at, IsLiveAt}

-- the mark of a row, which has its depth and its state
abbrev pub mark_at : List Mark → ℕ → Mark
mark_at marks row = slice_index_or marks row (record { depth = 0; state = Waiting })

-- A row has a query and is live or dead. Its mark, at the same place of the other list, has its depth and its state.
pub record Store : Type 0 where
  pub problem : Problem
  pub budget : ℕ
  pub rows : List Row
  pub marks : List Mark
  pub level : ℕ
  -- the number of claims ever given
  pub claims : ℕ
  pub cut : Option Cut

abbrev pub IsRow : Store → ℕ → Type 0
IsRow s row = row < length s.rows

abbrev pub query_of : Store → ℕ → Query
query_of s row = query_at s.rows row

abbrev pub IsLive : Store → ℕ → Type 0
IsLive s row = IsLiveAt s.rows row

abbrev pub depth_of : Store → ℕ → ℕ
depth_of s row = (mark_at s.marks row).depth

abbrev pub state_of : Store → ℕ → RowState
state_of s row = (mark_at s.marks row).state

abbrev pub IsCut : Store → Type 0
IsCut s = IsSome s.cut

abbrev pub IsInWork : RowState → Type 0
IsInWork Waiting = ⊥
IsInWork Open = Unit {0}
IsInWork (Claimed number) = Unit {0}
IsInWork Done = ⊥
IsInWork Skipped = ⊥

pub record IsFinished (s : Store) : Type 0 where
  pub uncut : s.cut ≡ None
  pub none_in_work : (row : ℕ) → IsRow s row → ¬ IsInWork (state_of s row)
  pub no_live_waits : (row : ℕ) → IsLive s row → state_of s row ≢ Waiting
