-- Reports on a claimed row.
use Rattle.std.specs.Prelude.{ℕ, ◌<◌, length, Bool, List, All, Option, None, slice_index_or}
use Rattle.ucq_terms.specs.Syntax.{Rule, Query, Problem}
use Rattle.ucq_store.specs.declared.reports.Found.{Found}
use Rattle.ucq_store.specs.declared.reports.Found.TheVariants.{Whole, Wide}
use Rattle.ucq_store.specs.Candidates.{Candidate, used, HoldCores}
use Rattle.ucq_store.specs.Lawful.{HasWideStep, IsCoreOfOneStep}
use Rattle.ucq_store.specs.Changes.{IsWhole}

-- what was found for the query of a row of that problem, and whether a store has taken it
pub record Report : Type 0 where
  pub problem : Problem
  pub query : Query
  pub found : Found
  pub spent : Bool

-- No store has taken these candidates, with evidence or without. Their cores are cores of one-step rewritings of the query,
-- and cover all of these.
pub record AreFound (rules : List Rule) (q : Query) (candidates : List Candidate) : Type 0 where
  pub cores : List Query
  pub fresh : HoldCores candidates cores
  pub derived : All (IsCoreOfOneStep rules q) cores
  pub whole : IsWhole rules q cores

-- what a report keeps until it is spent
abbrev pub IsFound : List Rule → Query → Found → Type 0
IsFound rules q (Whole candidates) = AreFound rules q candidates
IsFound rules q (Wide rule count) = HasWideStep rules q rule count

-- where a candidate was added
abbrev pub placed_at : List Candidate → ℕ → Option ℕ
placed_at candidates place = (slice_index_or candidates place (used None)).placed

-- how many candidates it has, of a whole report, and none of a wide one
abbrev pub candidate_count : Found → ℕ
candidate_count (Whole candidates) = length candidates
candidate_count (Wide rule count) = 0

-- a place of a candidate
abbrev pub HasPlace : Found → ℕ → Type 0
HasPlace found place = place < candidate_count found

-- where its last publication added the candidate at a place
abbrev pub placed_in : Found → ℕ → Option ℕ
placed_in (Whole candidates) place = placed_at candidates place
placed_in (Wide rule count) place = None
