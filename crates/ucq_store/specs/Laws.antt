-- The laws of a lawful store.
use Rattle.std.specs.Prelude.{◌≡◌, ℕ, suc, ◌<◌, ◌≤◌, ◌↔◌, length, List, All, Any, Option, None}
use Rattle.ucq_terms.specs.declared.TheConstants.{ATOMS}
use Rattle.ucq_terms.specs.Syntax.{Rule, Query, Problem}
use Rattle.ucq_terms.specs.Homomorphism.{Covers, IsEquivalent, IsCoreOf}
use Rattle.ucq_terms.specs.Rewriting.{HasWidth, IsOneStep, IsInLevel}
use Rattle.ucq_terms.specs.Union.{IsExact}
use Rattle.ucq_chase.specs.Laws.{IsClosed}
use Rattle.ucq_chase.specs.Names.{IsHeldQuery, IsHeldRule, IsHeldProblem}
use Rattle.ucq_antichain.specs.declared.Row.{Row}
use Rattle.ucq_antichain.specs.Rows.{query_at, IsLiveAt, SomeLiveCovers, live_queries}
use Rattle.ucq_store.specs.Store.{Store, IsRow, depth_of, IsFinished}
use Rattle.ucq_store.specs.Lawful.{IsCoreOfOneStep, IsLawful, IsLawfulByLevels}
use Rattle.ucq_store.specs.Changes.{Takes}

-- the live queries of a finished store cover the problem's query, and each one-step rewriting of each of them
abbrev pub FinishedIsClosed : Type 0
FinishedIsClosed =
    (s : Store) →
    IsLawful s →
    IsFinished s →
    Any (λ m. Covers m s.problem.query) (live_queries s.rows) × IsClosed s.problem.rules (live_queries s.rows)

-- and they are an exact union
abbrev pub FinishedIsExact : Type 0
FinishedIsExact = (s : Store) → IsLawful s → IsFinished s → IsExact s.problem (live_queries s.rows)

-- the row is a core of a one-step rewriting of an earlier row
pub record IsFromEarlier (problem : Problem) (rows : List Row) (row : ℕ) : Type 0 where
  pub parent : ℕ
  pub earlier : parent < row
  pub derived : IsCoreOfOneStep problem.rules (query_at rows parent) (query_at rows row)

-- some later row covers the row
pub record SomeLaterCovers (rows : List Row) (row : ℕ) : Type 0 where
  pub later : ℕ
  pub after : row < later
  pub row_of : later < length rows
  pub covers : Covers (query_at rows later) (query_at rows row)

-- What a cut run prints: its rows, in order, each live or dead.
pub record IsCutListing (problem : Problem) (rows : List Row) : Type 0 where
  pub some : 0 < length rows
  pub first : IsCoreOf problem.query (query_at rows 0)
  pub later : (row : ℕ) → row < length rows → 0 < row → IsFromEarlier problem rows row
  pub none_covers_later : (earlier later : ℕ) → earlier < later → later < length rows → ¬ Covers (query_at rows earlier) (query_at rows later)
  -- the dead rows are those that a later row covers
  pub dead : (row : ℕ) → row < length rows → (¬ IsLiveAt rows row) ↔ SomeLaterCovers rows row

-- the rows of a lawful store are a cut listing
abbrev pub CutListing : Type 0
CutListing = (s : Store) → IsLawful s → IsCutListing s.problem s.rows

-- some query of a level up to the last one covers the query
pub record IsCoveredByLevels (problem : Problem) (last : ℕ) (q : Query) : Type 0 where
  pub level : ℕ
  pub within : level ≤ last
  pub by : Query
  pub in_level : IsInLevel problem level by
  pub covers : Covers by q

-- Each query of the level after the last is covered by one of an earlier level, each query of these levels is equivalent to
-- a member of the list, and no rewriting of a query up to the last level is too wide.
pub record LevelsEnd (problem : Problem) (last : ℕ) (members : List Query) : Type 0 where
  pub covered : (q : Query) → IsInLevel problem (suc last) q → IsCoveredByLevels problem last q
  pub counted : (level : ℕ) (q : Query) → level ≤ suc last → IsInLevel problem level q → Any (λ m. IsEquivalent m q) members
  pub narrow :
      (level : ℕ) (q result : Query) (width : ℕ) →
      level ≤ last →
      IsInLevel problem level q →
      IsOneStep problem.rules q result →
      HasWidth result.atoms width →
      width ≤ ATOMS

-- the levels end, and the budget has room for as many rows as they have members
pub record IsEnough (problem : Problem) (budget : ℕ) : Type 0 where
  pub last : ℕ
  pub members : List Query
  pub ends : LevelsEnd problem last members
  pub fits : length members ≤ budget

-- where the levels end, a store whose budget is at least the number of members isn't cut, and no row is deeper than the last level
abbrev pub EnoughBudget : Type 0
EnoughBudget =
    (s : Store) (last : ℕ) (members : List Query) →
    IsLawfulByLevels s →
    LevelsEnd s.problem last members →
    length members ≤ s.budget →
    (s.cut ≡ None) × ((row : ℕ) → IsRow s row → depth_of s row ≤ last)

-- a live row covers each core that was taken, also those for which no row was added
abbrev pub TakenAreCovered : Type 0
TakenAreCovered =
    (s after : Store) (cores : List Query) (places : List (Option ℕ)) →
    IsLawful s →
    s.cut ≡ None →
    Takes s cores places after →
    All (SomeLiveCovers after.rows) cores

-- ---- names

-- where all names of the query and the rules are held, those of each core of a one-step rewriting are
abbrev pub DerivedKeepsNames : Type 0
DerivedKeepsNames =
    (count : ℕ) (rules : List Rule) (q core : Query) →
    All (IsHeldRule count) rules →
    IsHeldQuery count q →
    IsCoreOfOneStep rules q core →
    IsHeldQuery count core

-- where all names of the problem are held, those of each row of a cut listing are
abbrev pub ListingKeepsNames : Type 0
ListingKeepsNames =
    (count : ℕ) (problem : Problem) (rows : List Row) →
    IsHeldProblem count problem →
    IsCutListing problem rows →
    (row : ℕ) →
    row < length rows →
    IsHeldQuery count (query_at rows row)

-- and those of each live query of a lawful store
abbrev pub LiveKeepNames : Type 0
LiveKeepNames = (count : ℕ) (s : Store) → IsHeldProblem count s.problem → IsLawful s → All (IsHeldQuery count) (live_queries s.rows)
