-- What is left to do for a store.
use Rattle.std.specs.Prelude.{◌≡◌, ◌≢◌, ℕ, ◌+◌, ◌-◌, ◌*◌, ◌^◌, ◌<◌, ◌⊎◌, Bool, true, false, List, length, Option, None}
use Rattle.std.specs.List.{sum_by}
use Rattle.ucq_terms.specs.Syntax.{Query}
use Rattle.ucq_store.specs.declared.Mark.{Mark}
use Rattle.ucq_store.specs.declared.Cut.{Cut}
use Rattle.ucq_store.specs.declared.RowState.{RowState}
use Rattle.ucq_store.specs.declared.RowState.TheVariants.{Waiting, Open, Claimed, Done, Skipped}
use Rattle.ucq_store.specs.Store.{Store, IsRow, IsCut, state_of, IsFinished}
use Rattle.ucq_store.specs.Changes.{with_state, with_cut, Takes}

-- how many things are still done with a row in that state: its level comes, and it is claimed
abbrev pub work_of : RowState → ℕ
work_of Waiting = 2
work_of Open = 1
work_of (Claimed number) = 0
work_of Done = 0
work_of Skipped = 0

-- the work of the rows that are there
abbrev pub work_of_marks : List Mark → ℕ
work_of_marks marks = sum_by (λ (m : Mark). work_of m.state) marks

-- and three things for each row for which there is room: it is added, its level comes, and it is claimed
abbrev pub work_left : Store → ℕ
work_left s = 3 * (s.budget - length s.rows) + work_of_marks s.marks

-- The store isn't cut and no row of it is claimed, and there are numbers enough for the claims that are left.
pub record IsAtRest (s : Store) : Type 0 where
  pub uncut : s.cut ≡ None
  pub marked : length s.marks ≡ length s.rows
  pub unclaimed : (row number : ℕ) → IsRow s row → state_of s row ≢ Claimed number
  pub few_claims : s.claims + work_left s < 2 ^ 64 - 1

-- Cores were taken, and then the row is done or the store is cut.
pub record IsExplored (s : Store) (row : ℕ) (after : Store) : Type 0 where
  pub cores : List Query
  pub places : List (Option ℕ)
  pub taken : Store
  pub takes : Takes s cores places taken
  pub ends : (after ≡ with_state taken row Done) ⊎ ((cut : Cut) × (after ≡ with_cut taken cut))

-- it is at rest again, and there is less to do
pub record IsNearerEnd (s after : Store) : Type 0 where
  pub at_rest : IsAtRest after
  pub less : work_left after < work_left s

-- the problem and the budget are the same
pub record IsSameTask (s after : Store) : Type 0 where
  pub problem : after.problem ≡ s.problem
  pub budget : after.budget ≡ s.budget

-- at true there is more to do, at false it is finished or cut
abbrev pub DoesAdvance : Store → Bool → Store → Type 0
DoesAdvance s true after = IsNearerEnd s after
DoesAdvance s false after = IsFinished after ⊎ IsCut after
