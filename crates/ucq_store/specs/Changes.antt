-- What the calls of a store do to it.
use Rattle.std.specs.Prelude.{◌≡◌, ℕ, ◌+◌, ◌<◌, Bool, true, false, List, [], ◌∷◌, ◌++◌, length, Any, Option, None, Some, slice_set}
use Rattle.ucq_terms.specs.Syntax.{Rule, Query, Problem}
use Rattle.ucq_terms.specs.Homomorphism.{Covers}
use Rattle.ucq_terms.specs.Rewriting.{IsOneStep}
use Rattle.ucq_store.specs.declared.Mark.{Mark}
use Rattle.ucq_store.specs.declared.RowState.{RowState}
use Rattle.ucq_store.specs.declared.RowState.TheVariants.{Waiting, Open, Claimed, Done, Skipped}
use Rattle.ucq_antichain.specs.declared.Row.{Row}
use Rattle.ucq_antichain.specs.Rows.{row_at, SomeLiveCovers, IsAdded}
use Rattle.ucq_store.specs.declared.Cut.{Cut}
use Rattle.ucq_store.specs.Store.{mark_at, Store, IsRow, query_of, depth_of}
use Rattle.ucq_store.specs.Lawful.{IsSoundCore, IsCoreOfOneStep}

-- a store's beginning: one row, which is open
abbrev pub new_store : Problem → ℕ → Query → Store
new_store problem budget core = record {
  problem = problem;
  budget = budget;
  rows = record { query = core; live = true } ∷ [];
  marks = record { depth = 0; state = Open } ∷ [];
  level = 0;
  claims = 0;
  cut = None;
}

-- the store whose rows become these, of which the last is new and waits
abbrev pub with_row : Store → List Row → Store
with_row s rows = record s { rows = rows; marks = s.marks ++ record { depth = s.level + 1; state = Waiting } ∷ [] }

-- the store with that row's state changed
abbrev pub with_state : Store → ℕ → RowState → Store
with_state s row state = record s { marks = slice_set s.marks row (record { depth = depth_of s row; state = state }) }

-- the store with that row claimed, under the number of claims that were given before
abbrev pub with_claim : Store → ℕ → Store
with_claim s row = record (with_state s row (Claimed s.claims)) { claims = s.claims + 1 }

-- the store with that cut
abbrev pub with_cut : Store → Cut → Store
with_cut s cut = record s { cut = Some cut }

-- A core of a one-step rewriting of that row, which stands at the level, may be added.
pub record IsCandidate (s : Store) (row : ℕ) (core : Query) : Type 0 where
  pub row_of : IsRow s row
  pub row_depth : depth_of s row ≡ s.level
  pub sound_core : IsSoundCore s.problem core
  pub derived : IsCoreOfOneStep s.problem.rules (query_of s row) core

-- each one-step rewriting of the row is covered by a live row
pub record IsExhausted (s : Store) (row : ℕ) : Type 0 where
  pub covered : (result : Query) → IsOneStep s.problem.rules (query_of s row) result → SomeLiveCovers s.rows result

-- each one-step rewriting of the query is covered by one of the cores
pub record IsWhole (rules : List Rule) (q : Query) (cores : List Query) : Type 0 where
  pub covered : (result : Query) → IsOneStep rules q result → Any (λ core. Covers core result) cores

-- the core, which no live row covers, is added where there is room, and these are the rows then
pub record Adds (s : Store) (core : Query) (rows : List Row) : Type 0 where
  pub uncovered : ¬ SomeLiveCovers s.rows core
  pub room : length s.rows < s.budget
  pub added : IsAdded core s.rows rows

-- One core after another is covered by a live row, and then has no place, or is added, and its place is the new row.
abbrev pub Takes : Store → List Query → List (Option ℕ) → Store → Type 0
Takes s [] [] after = after ≡ s
Takes s (core ∷ rest) (None ∷ places) after = SomeLiveCovers s.rows core × Takes s rest places after
Takes s (core ∷ rest) (Some row ∷ places) after =
    (row ≡ length s.rows) × ((rows : List Row) × Adds s core rows × Takes (with_row s rows) rest places after)
Takes s cores places after = ⊥

-- when the level rises, live Waiting rows are Open and dead ones Skipped
abbrev pub raised : RowState → Bool → RowState
raised Waiting true = Open
raised Waiting false = Skipped
raised Open live = Open
raised (Claimed number) live = Claimed number
raised Done live = Done
raised Skipped live = Skipped

pub record IsRaised (rows : List Row) (before after : List Mark) : Type 0 where
  pub count : length after ≡ length before
  pub each :
      (row : ℕ) →
      row < length rows →
      mark_at after row ≡ record { depth = (mark_at before row).depth; state = raised (mark_at before row).state (row_at rows row).live }

-- a claimed row is open again
abbrev pub reopened : RowState → RowState
reopened (Claimed number) = Open
reopened Waiting = Waiting
reopened Open = Open
reopened Done = Done
reopened Skipped = Skipped

pub record IsReopened (before after : List Mark) : Type 0 where
  pub count : length after ≡ length before
  pub each :
      (row : ℕ) →
      row < length before →
      mark_at after row ≡ record { depth = (mark_at before row).depth; state = reopened (mark_at before row).state }
