-- What the calls of a store answer and do.
use Rattle.std.specs.Prelude.{◌≡◌, ◌≢◌, ℕ, ◌+◌, ◌-◌, ◌^◌, ◌<◌, ◌⊎◌, length, List, [], ◌∷◌, ◌++◌, map, All, Bool, true, false, Option, Some, None}
use Rattle.ucq_terms.specs.Syntax.{Query, Problem}
use Rattle.ucq_terms.specs.Homomorphism.{IsCoreOf}
use Rattle.ucq_store.specs.declared.Mark.{Mark}
use Rattle.ucq_store.specs.declared.Claim.{Claim}
use Rattle.ucq_store.specs.declared.RowState.TheVariants.{Waiting, Open, Claimed, Done}
use Rattle.ucq_store.specs.declared.Released.{Released}
use Rattle.ucq_store.specs.declared.Released.TheVariants as released
use Rattle.ucq_store.specs.declared.Published.{Published}
use Rattle.ucq_store.specs.declared.Published.TheVariants as published
use Rattle.ucq_store.specs.declared.Cut.TheVariants as cut
use Rattle.ucq_store.specs.declared.reports.Found.TheVariants.{Whole, Wide}
use Rattle.ucq_store.specs.Store.{Store, mark_at, IsRow, IsLive, IsCut, query_of, depth_of, state_of, IsInWork}
use Rattle.ucq_store.specs.Lawful.{IsCoreOfOneStep, IsLeftOver, IsLawful}
use Rattle.ucq_store.specs.Changes.{new_store, with_state, with_claim, with_cut, Takes, IsReopened, IsRaised}
use Rattle.ucq_store.specs.Candidates.{Candidate, used, HoldsCore, HoldCores}
use Rattle.ucq_store.specs.Reports.{Report}

-- a store of one row, a core of the problem's query, which is live and open
pub record IsNew (problem : Problem) (budget : ℕ) (s : Store) : Type 0 where
  pub core : Query
  pub core_of : IsCoreOf problem.query core
  pub same : s ≡ new_store problem budget core

-- the mark's row is open, and no earlier one is
pub record IsFirstOpen (marks : List Mark) (row : ℕ) : Type 0 where
  pub within : row < length marks
  pub is_open : (mark_at marks row).state ≡ Open
  pub first : (earlier : ℕ) → earlier < row → (mark_at marks earlier).state ≢ Open

abbrev pub HasNoOpen : List Mark → Type 0
HasNoOpen marks = (row : ℕ) → row < length marks → (mark_at marks row).state ≢ Open

-- it is the first open row, or there is none
abbrev pub FindsOpen : List Mark → Option ℕ → Type 0
FindsOpen marks None = HasNoOpen marks
FindsOpen marks (Some row) = IsFirstOpen marks row

-- The first open row is claimed under the number of claims given before, where the store isn't cut and a number is left.
abbrev pub DoesClaim : Store → Option Claim → Store → Type 0
DoesClaim s None after = (after ≡ s) × (IsCut s ⊎ (HasNoOpen s.marks ⊎ (s.claims ≡ 2 ^ 64 - 1)))
DoesClaim s (Some claim) after =
    (s.cut ≡ None) × (s.claims < 2 ^ 64 - 1) × IsFirstOpen s.marks claim.row × (claim.number ≡ s.claims) × (after ≡ with_claim s claim.row)

abbrev pub IsClaimed : Store → Claim → Type 0
IsClaimed s claim = state_of s claim.row ≡ Claimed claim.number

-- a row that is claimed under that number is open again
abbrev pub DoesRelease : Store → Claim → Released → Store → Type 0
DoesRelease s claim released.Opened after = IsRow s claim.row × IsClaimed s claim × (after ≡ with_state s claim.row Open)
DoesRelease s claim (released.Strange None) after = (after ≡ s) × ¬ IsRow s claim.row
DoesRelease s claim (released.Strange (Some state)) after = (after ≡ s) × IsRow s claim.row × (state ≡ state_of s claim.row) × ¬ IsClaimed s claim

abbrev pub DoesReopen : Store → Store → Type 0
DoesReopen s after = (marks : List Mark) × IsReopened s.marks marks × (after ≡ record s { marks = marks })

-- the store isn't cut, no row is in work, and a live row waits
pub record CanRise (s : Store) : Type 0 where
  pub uncut : s.cut ≡ None
  pub none_in_work : (row : ℕ) → IsRow s row → ¬ IsInWork (state_of s row)
  pub one_waits : (row : ℕ) × IsLive s row × (state_of s row ≡ Waiting)

-- the level rises where it can
abbrev pub DoesRaise : Store → Bool → Store → Type 0
DoesRaise s true after = CanRise s × ((marks : List Mark) × IsRaised s.rows s.marks marks × (after ≡ record s { marks = marks; level = s.level + 1 }))
DoesRaise s false after = (¬ CanRise s) × (after ≡ s)

-- The core of a candidate, derived from a row of the level, may be taken.
pub record IsOffered (s : Store) (c : Candidate) : Type 0 where
  pub uncut : s.cut ≡ None
  pub row : ℕ
  pub row_of : IsRow s row
  pub row_depth : depth_of s row ≡ s.level
  pub core : Query
  pub fresh : HoldsCore c core
  pub derived : IsCoreOfOneStep s.problem.rules (query_of s row) core

-- one core is covered by a live row, or is added, or is left over where there is no room for it
abbrev pub DoesTake : Store → Candidate → Option Query → Store → Candidate → Type 0
DoesTake s c None after c' = (core : Query) × HoldsCore c core × ((place : Option ℕ) × (c' ≡ used place) × Takes s (core ∷ []) (place ∷ []) after)
DoesTake s c (Some left) after c' = HoldsCore c left × (c' ≡ used None) × (after ≡ s) × IsLeftOver s.problem s.budget s.rows left

-- The cores of candidates, derived from a row of the level, may be taken.
pub record AreOffered (s : Store) (row : ℕ) (candidates : List Candidate) : Type 0 where
  pub lawful : IsLawful s
  pub uncut : s.cut ≡ None
  pub row_of : IsRow s row
  pub row_depth : depth_of s row ≡ s.level
  pub cores : List Query
  pub fresh : HoldCores candidates cores
  pub derived : All (IsCoreOfOneStep s.problem.rules (query_of s row)) cores

-- all cores are taken
pub record AreTaken (s : Store) (candidates : List Candidate) (after : Store) (then : List Candidate) : Type 0 where
  pub cores : List Query
  pub were : HoldCores candidates cores
  pub places : List (Option ℕ)
  pub takes : Takes s cores places after
  pub are : then ≡ map used places

-- The cores before one are taken, and that one, which no row covers, is left over. Later candidates are as they were.
pub record IsFilled (s : Store) (candidates : List Candidate) (left : Query) (after : Store) (then : List Candidate) : Type 0 where
  pub earlier : List Candidate
  pub at : Candidate
  pub later : List Candidate
  pub were : candidates ≡ earlier ++ at ∷ later
  pub seen : List Query
  pub rest : List Query
  pub held_seen : HoldCores earlier seen
  pub held_left : HoldsCore at left
  pub held_rest : HoldCores later rest
  pub places : List (Option ℕ)
  pub takes : Takes s seen places after
  pub left_over : IsLeftOver after.problem after.budget after.rows left
  pub are : then ≡ map used places ++ used None ∷ later

abbrev pub DoesTakeAll : Store → List Candidate → Option Query → Store → List Candidate → Type 0
DoesTakeAll s candidates None after then = AreTaken s candidates after then
DoesTakeAll s candidates (Some left) after then = IsFilled s candidates left after then

-- The report is taken: all its cores are, and the row is Done.
pub record IsTaken (s : Store) (row : ℕ) (report : Report) (after : Store) (then : Report) : Type 0 where
  pub candidates : List Candidate
  pub were : report.found ≡ Whole candidates
  pub taken : Store
  pub candidates_then : List Candidate
  pub takes : AreTaken s candidates taken candidates_then
  pub store : after ≡ with_state taken row Done
  pub spent : then ≡ record report { found = Whole candidates_then; spent = true }

-- The report makes the cut that the rows number the budget, while a core is left over.
pub record IsCutFull (s : Store) (report : Report) (after : Store) (then : Report) : Type 0 where
  pub candidates : List Candidate
  pub were : report.found ≡ Whole candidates
  pub left : Query
  pub taken : Store
  pub candidates_then : List Candidate
  pub fills : IsFilled s candidates left taken candidates_then
  pub store : after ≡ with_cut taken (cut.Rows left)
  pub spent : then ≡ record report { found = Whole candidates_then; spent = true }

-- The report makes the cut that its row has a rewriting that is too wide.
pub record IsCutWide (s : Store) (row : ℕ) (report : Report) (after : Store) (then : Report) : Type 0 where
  pub rule : ℕ
  pub count : ℕ
  pub were : report.found ≡ Wide rule count
  pub store : after ≡ with_cut s (cut.Wide row rule count)
  pub spent : then ≡ record report { spent = true }

-- the row has the report's query, under the report's problem
pub record IsAbout (s : Store) (row : ℕ) (report : Report) : Type 0 where
  pub row_of : IsRow s row
  pub query : query_of s row ≡ report.query
  pub problem : s.problem ≡ report.problem

-- what a report on that row does to the store
abbrev pub DoesDeliver : Store → ℕ → Report → Published → Store → Report → Type 0
DoesDeliver s row report published.Cut after then = IsCutFull s report after then ⊎ IsCutWide s row report after then
DoesDeliver s row report published.Taken after then = IsTaken s row report after then
DoesDeliver s row report published.Foreign after then = ⊥
DoesDeliver s row report (published.Strange state) after then = ⊥

-- the store isn't cut, and the report is on the row, which is claimed under that number
pub record IsDue (s : Store) (claim : Claim) (report : Report) : Type 0 where
  pub uncut : s.cut ≡ None
  pub about : IsAbout s claim.row report
  pub claimed : IsClaimed s claim

abbrev pub IsUnchanged : Store → Report → Store → Report → Type 0
IsUnchanged s report after then = (after ≡ s) × (then ≡ report)

-- A cut store, a report on no row, and a claim that isn't the row's are refused in this order, and nothing changes. Else the
-- report makes a cut or is taken.
abbrev pub DoesPublish : Store → Claim → Report → Published → Store → Report → Type 0
DoesPublish s claim report published.Cut after then =
    (IsUnchanged s report after then × IsCut s) ⊎ (IsDue s claim report × DoesDeliver s claim.row report published.Cut after then)
DoesPublish s claim report published.Foreign after then = IsUnchanged s report after then × (s.cut ≡ None) × ¬ IsAbout s claim.row report
DoesPublish s claim report (published.Strange state) after then =
    IsUnchanged s report after then × (s.cut ≡ None) × IsAbout s claim.row report × (state ≡ state_of s claim.row) × ¬ IsClaimed s claim
DoesPublish s claim report published.Taken after then = IsDue s claim report × DoesDeliver s claim.row report published.Taken after then
