-- What a report proposes for a row.
use Rattle.std.specs.Prelude.{◌≡◌, ◌<◌, ℕ, List, [], ◌∷◌, Option, Some, None, length}
use Rattle.ucq_terms.specs.Syntax.{Query}
use Rattle.ucq_terms.specs.Homomorphism.{Covers}
use Rattle.ucq_antichain.specs.declared.Row.{Row}
use Rattle.ucq_antichain.specs.Rows.{query_at}

-- A row and a query, which the row is said to hold.
pub record Evidence : Type 0 where
  pub row : ℕ
  pub by : Query

-- A core, until a store takes it, evidence that it is covered, if there is any, and the row at which it was added.
pub record Candidate : Type 0 where
  pub core : Option Query
  pub evidence : Option Evidence
  pub placed : Option ℕ

-- a candidate that no store has taken, without evidence
abbrev pub plain : Query → Candidate
plain core = record { core = Some core; evidence = None; placed = None }

-- the same, with evidence
abbrev pub known : Query → Evidence → Candidate
known core evidence = record { core = Some core; evidence = Some evidence; placed = None }

-- a candidate whose core was taken, and added at that row if there is one
abbrev pub used : Option ℕ → Candidate
used placed = record { core = None; evidence = None; placed = placed }

-- where there are a core and evidence, the query of the evidence covers the core
abbrev pub IsEvident : Option Query → Option Evidence → Type 0
IsEvident None evidence = Unit {0}
IsEvident (Some core) None = Unit {0}
IsEvident (Some core) (Some evidence) = Covers evidence.by core

-- there is a row of that number, and it holds the query of the evidence
pub record IsHeldAt (rows : List Row) (evidence : Evidence) : Type 0 where
  pub row_of : evidence.row < length rows
  pub query : query_at rows evidence.row ≡ evidence.by

-- there is evidence, and it is right about its row
abbrev pub IsKnownAmong : List Row → Option Evidence → Type 0
IsKnownAmong rows None = ⊥
IsKnownAmong rows (Some evidence) = IsHeldAt rows evidence

-- The candidate holds this core, with evidence or without, and no store has taken it.
pub record HoldsCore (c : Candidate) (core : Query) : Type 0 where
  pub core_of : c.core ≡ Some core
  pub placed_nowhere : c.placed ≡ None

-- each candidate holds the core at its place, and there are no others of either
abbrev pub HoldCores : List Candidate → List Query → Type 0
HoldCores [] [] = Unit {0}
HoldCores [] (core ∷ cores) = ⊥
HoldCores (c ∷ candidates) [] = ⊥
HoldCores (c ∷ candidates) (core ∷ cores) = HoldsCore c core × HoldCores candidates cores
