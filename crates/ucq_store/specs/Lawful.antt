-- What holds of a store at every moment.
use Rattle.std.specs.Prelude.{◌≡◌, ◌≢◌, ℕ, ◌+◌, ◌<◌, ◌≤◌, length, List, Option, Some, None}
use Rattle.ucq_terms.specs.declared.TheConstants.{ATOMS}
use Rattle.ucq_terms.specs.Syntax.{Rule, Query, Problem}
use Rattle.ucq_terms.specs.Query.{IsStored}
use Rattle.ucq_terms.specs.Homomorphism.{Covers, IsCore, IsCoreOf}
use Rattle.ucq_terms.specs.Rewriting.{HasWidth, IsOneStep, IsOneStepWith}
use Rattle.ucq_terms.specs.Union.{IsSound, AreIncomparable}
use Rattle.ucq_store.specs.declared.RowState.{RowState}
use Rattle.ucq_store.specs.declared.RowState.TheVariants.{Waiting, Open, Claimed, Done, Skipped}
use Rattle.ucq_antichain.specs.declared.Row.{Row}
use Rattle.ucq_antichain.specs.Rows.{query_at, SomeLiveCovers}
use Rattle.ucq_store.specs.declared.Cut.{Cut}
use Rattle.ucq_store.specs.declared.Cut.TheVariants.{Rows, Wide}
use Rattle.ucq_store.specs.Store.{Store, IsRow, query_of, IsLive, depth_of, state_of}

-- what a row may hold: a sound core that can be stored, so no atom stands twice, and it has few atoms and variables
pub record IsSoundCore (problem : Problem) (q : Query) : Type 0 where
  pub sound : IsSound problem q
  pub core : IsCore q
  pub stored : IsStored q

-- a core of a one-step rewriting of the first query
pub record IsCoreOfOneStep (rules : List Rule) (q core : Query) : Type 0 where
  pub result : Query
  pub step : IsOneStep rules q result
  pub core_of : IsCoreOf result core

-- Each row is a sound core. The first has depth 0 and is a core of the problem's query. There are 1 to budget rows.
pub record RowsAreSoundCores (s : Store) : Type 0 where
  pub each : (row : ℕ) → IsRow s row → IsSoundCore s.problem (query_of s row)
  pub first : IsCoreOf s.problem.query (query_of s 0)
  pub first_depth : depth_of s 0 ≡ 0
  pub some : 0 < length s.rows
  pub within : length s.rows ≤ s.budget

-- Below the level rows are Done or Skipped. At the level they are Open, Claimed, Done or Skipped. One above they are
-- Waiting, and no row is deeper.
abbrev pub FitsLevel : ℕ → ℕ → RowState → Type 0
FitsLevel level depth Waiting = depth ≡ level + 1
FitsLevel level depth Open = depth ≡ level
FitsLevel level depth (Claimed number) = depth ≡ level
FitsLevel level depth Done = depth ≤ level
FitsLevel level depth Skipped = depth ≤ level

pub record StatesFollowLevels (s : Store) : Type 0 where
  pub fit : (row : ℕ) → IsRow s row → FitsLevel s.level (depth_of s row) (state_of s row)
  -- claimed rows have different numbers, each below the number of claims
  pub numbers_differ :
      (one two number : ℕ) →
      IsRow s one →
      IsRow s two →
      state_of s one ≡ Claimed number →
      state_of s two ≡ Claimed number →
      one ≡ two
  pub numbers_given : (row number : ℕ) → IsRow s row → state_of s row ≡ Claimed number → number < s.claims
  pub skipped_are_dead : (row : ℕ) → IsRow s row → state_of s row ≡ Skipped → ¬ IsLive s row

-- the row is a core of a one-step rewriting of an earlier row of one depth less
pub record IsDerived (s : Store) (row : ℕ) : Type 0 where
  pub parent : ℕ
  pub earlier : parent < row
  pub deeper : depth_of s row ≡ depth_of s parent + 1
  pub derived : IsCoreOfOneStep s.problem.rules (query_of s parent) (query_of s row)

-- each row past the first is derived, and depths never fall along the rows
pub record RowsAreDerived (s : Store) : Type 0 where
  pub each : (row : ℕ) → IsRow s row → 0 < row → IsDerived s row
  pub depths : (earlier later : ℕ) → earlier < later → IsRow s later → depth_of s earlier ≤ depth_of s later

-- The rows number the budget, and this sound core of a one-step rewriting of a row is covered by no row.
pub record IsLeftOver (problem : Problem) (budget : ℕ) (rows : List Row) (left : Query) : Type 0 where
  pub full : length rows ≡ budget
  pub sound_core : IsSoundCore problem left
  pub row : ℕ
  pub row_of : row < length rows
  pub derived : IsCoreOfOneStep problem.rules (query_at rows row) left
  pub uncovered : (row : ℕ) → row < length rows → ¬ Covers (query_at rows row) left

-- the query has with that rule a one-step rewriting of that width, and that is too wide
pub record HasWideStep (rules : List Rule) (q : Query) (rule count : ℕ) : Type 0 where
  pub result : Query
  pub step : IsOneStepWith rules rule q result
  pub width : HasWidth result.atoms count
  pub wide : ATOMS < count

-- the row's query has so with the rule a one-step rewriting that is too wide
pub record IsWideRow (rules : List Rule) (rows : List Row) (row rule count : ℕ) : Type 0 where
  pub row_of : row < length rows
  pub wide_step : HasWideStep rules (query_at rows row) rule count

abbrev pub HasCutCause : Store → Option Cut → Type 0
HasCutCause s None = Unit {0}
HasCutCause s (Some (Rows left)) = IsLeftOver s.problem s.budget s.rows left
HasCutCause s (Some (Wide row rule count)) = IsWideRow s.problem.rules s.rows row rule count

-- A row is explored when it is Done, live or dead.
pub record IsLawful (s : Store) : Type 0 where
  -- each row has its mark
  pub marks_fit : length s.marks ≡ length s.rows
  pub rows_are_sound_cores : RowsAreSoundCores s
  -- live rows are pairwise incomparable
  pub live_are_incomparable :
      (one two : ℕ) →
      one ≢ two →
      IsLive s one →
      IsLive s two →
      AreIncomparable (query_of s one) (query_of s two)
  -- each row is covered by a live row
  pub rows_are_covered : (row : ℕ) → IsRow s row → SomeLiveCovers s.rows (query_of s row)
  -- each one-step rewriting of each explored row is covered by a live row
  pub explored_are_closed :
      (row : ℕ) (result : Query) →
      IsRow s row →
      state_of s row ≡ Done →
      IsOneStep s.problem.rules (query_of s row) result →
      SomeLiveCovers s.rows result
  pub states_follow_levels : StatesFollowLevels s
  pub rows_are_derived : RowsAreDerived s
  pub no_row_covers_later : (earlier later : ℕ) → earlier < later → IsRow s later → ¬ Covers (query_of s earlier) (query_of s later)
  -- a live row below the level is explored
  pub live_below_are_done : (row : ℕ) → IsLive s row → depth_of s row < s.level → state_of s row ≡ Done
  pub cut_has_cause : HasCutCause s s.cut

-- some row no deeper than that covers the query
pub record IsCoveredAt (s : Store) (depth : ℕ) (q : Query) : Type 0 where
  pub row : ℕ
  pub row_of : IsRow s row
  pub no_deeper : depth_of s row ≤ depth
  pub covers : Covers (query_of s row) q

-- the same, by a row that isn't Skipped
pub record IsCoveredUnskipped (s : Store) (depth : ℕ) (q : Query) : Type 0 where
  pub by : IsCoveredAt s depth q
  pub unskipped : state_of s by.row ≢ Skipped

pub record LevelsAreCovered (s : Store) : Type 0 where
  -- each one-step rewriting of an explored row is covered by a row at most one deeper
  pub explored :
      (row : ℕ) (result : Query) →
      IsRow s row →
      state_of s row ≡ Done →
      IsOneStep s.problem.rules (query_of s row) result →
      IsCoveredAt s (depth_of s row + 1) result
  -- each Skipped row is covered by a row of no greater depth that isn't Skipped
  pub skipped : (row : ℕ) → IsRow s row → state_of s row ≡ Skipped → IsCoveredUnskipped s (depth_of s row) (query_of s row)

-- the same, with what a budget needs
pub record IsLawfulByLevels (s : Store) : Type 0 where
  pub lawful : IsLawful s
  pub levels_are_covered : LevelsAreCovered s
