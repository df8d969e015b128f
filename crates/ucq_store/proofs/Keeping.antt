-- What the steps of a store keep.
use Rattle.std.proofs.Common.{◌≡◌, ℕ, ◌+◌, ◌<◌, ◌≤◌, List, None}
use Rattle.ucq_terms.specs.Syntax.{Query, Problem, IsSafe}
use Rattle.ucq_terms.specs.Homomorphism.{Covers, IsCoreOf}
use Rattle.ucq_terms.specs.Union.{IsSound}
use Rattle.ucq_antichain.specs.declared.Row.{Row}
use Rattle.ucq_antichain.specs.Rows.{SomeLiveCovers}
use Rattle.ucq_store.specs.declared.Mark.{Mark}
use Rattle.ucq_store.specs.declared.RowState.TheVariants.{Open, Claimed, Done}
use Rattle.ucq_store.specs.declared.Cut.TheVariants.{Rows, Wide}
use Rattle.ucq_store.specs.Store.{Store, IsRow, query_of, depth_of, state_of, IsInWork}
use Rattle.ucq_store.specs.Lawful.{IsSoundCore, IsCoreOfOneStep, IsLeftOver, IsWideRow, IsLawful, IsLawfulByLevels}
use Rattle.ucq_store.specs.Changes.{new_store, with_row, with_state, with_claim, with_cut}
use Rattle.ucq_store.specs.Changes.{IsCandidate, Adds, IsExhausted, IsRaised, IsReopened}

-- a core of the problem's query is sound where that query is safe
abbrev pub CoreOfQueryIsSound : Type 0
CoreOfQueryIsSound = (problem : Problem) (core : Query) → IsSafe problem.query → IsCoreOf problem.query core → IsSound problem core

-- a core of a one-step rewriting of a sound query is sound
abbrev pub DerivedIsSound : Type 0
DerivedIsSound = (problem : Problem) (q core : Query) → IsSound problem q → IsCoreOfOneStep problem.rules q core → IsSound problem core

-- a row's depth is at most its place, so a level fits where the rows' number does
abbrev pub DepthsAreSmall : Type 0
DepthsAreSmall = (s : Store) (row : ℕ) → IsLawful s → IsRow s row → depth_of s row ≤ row

-- a core is covered by a live row where some row, live or dead, holds a query that covers it
abbrev pub EvidenceCovers : Type 0
EvidenceCovers =
    (s : Store) (row : ℕ) (by core : Query) →
    IsLawful s →
    IsRow s row →
    query_of s row ≡ by →
    Covers by core →
    SomeLiveCovers s.rows core

-- The second store is lawful where the first is, also with what a budget needs.
pub record Keeps (s after : Store) : Type 0 where
  pub lawful : IsLawful s → IsLawful after
  pub by_levels : IsLawfulByLevels s → IsLawfulByLevels after

-- a store of one row, which is a core of the problem's query and a sound core, is lawful
abbrev pub NewIsLawful : Type 0
NewIsLawful =
    (problem : Problem) (budget : ℕ) (core : Query) →
    0 < budget →
    IsSoundCore problem core →
    IsCoreOf problem.query core →
    IsLawfulByLevels (new_store problem budget core)

-- an open row is claimed
abbrev pub ClaimKeeps : Type 0
ClaimKeeps = (s : Store) (row : ℕ) → IsRow s row → state_of s row ≡ Open → Keeps s (with_claim s row)

-- a claimed row is released
abbrev pub ReleaseKeeps : Type 0
ReleaseKeeps = (s : Store) (row number : ℕ) → IsRow s row → state_of s row ≡ Claimed number → Keeps s (with_state s row Open)

-- all claimed rows are reopened
abbrev pub ReopenKeeps : Type 0
ReopenKeeps = (s : Store) (marks : List Mark) → IsReopened s.marks marks → Keeps s (record s { marks = marks })

-- the level rises where no row is in work
abbrev pub RaiseKeeps : Type 0
RaiseKeeps =
    (s : Store) (marks : List Mark) →
    ((row : ℕ) → IsRow s row → ¬ IsInWork (state_of s row)) →
    IsRaised s.rows s.marks marks →
    Keeps s (record s { marks = marks; level = s.level + 1 })

-- one candidate that no live row covers is added, where there is room
abbrev pub AddKeeps : Type 0
AddKeeps =
    (s : Store) (row : ℕ) (core : Query) (rows : List Row) →
    s.cut ≡ None →
    IsCandidate s row core →
    Adds s core rows →
    Keeps s (with_row s rows)

-- an exhausted row of the level is Done
abbrev pub DoneKeeps : Type 0
DoneKeeps = (s : Store) (row : ℕ) → IsRow s row → depth_of s row ≡ s.level → IsExhausted s row → Keeps s (with_state s row Done)

-- a core is left over, for which there is no room
abbrev pub FullKeeps : Type 0
FullKeeps = (s : Store) (core : Query) → IsLeftOver s.problem s.budget s.rows core → Keeps s (with_cut s (Rows core))

-- a row has a rewriting that is too wide
abbrev pub WideKeeps : Type 0
WideKeeps = (s : Store) (row rule count : ℕ) → IsWideRow s.problem.rules s.rows row rule count → Keeps s (with_cut s (Wide row rule count))
