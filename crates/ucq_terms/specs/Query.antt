-- What every stored query keeps, and why a list of answers and atoms is none.
use Rattle.std.specs.Prelude.{◌≡◌, ◌<◌, ◌≤◌, ℕ, List, length, slice_get, Option, Some, None}
use Rattle.ucq_terms.specs.declared.Term.{Term}
use Rattle.ucq_terms.specs.declared.Term.TheVariants.{Constant, Variable}
use Rattle.ucq_terms.specs.declared.TheConstants.{ATOMS, VARIABLES}
use Rattle.ucq_terms.specs.declared.queries.QueryFault.{QueryFault}
use Rattle.ucq_terms.specs.declared.queries.QueryFault.TheVariants.{Unsafe, TooManyAtoms, Memory}
use Rattle.ucq_terms.specs.Syntax.{Atom, Query, OccursIn, HasEachOnce, IsVariableOf, IsSafe}
use Rattle.ucq_terms.specs.Numbering.{each_once, query_order, numbered_query}

-- safe, with pairwise different atoms, as many as are stored, and variables below the limit
pub record IsStored (q : Query) : Type 0 where
  pub safe : IsSafe q
  pub once : HasEachOnce q.atoms
  pub few_atoms : length q.atoms ≤ ATOMS
  pub few_answers : length q.answers ≤ 16
  pub variables : (v : ℕ) → IsVariableOf q v → v < VARIABLES

-- the term is a variable of no atom
abbrev pub IsLoose : List Atom → Term → Type 0
IsLoose atoms (Constant c) = ⊥
IsLoose atoms (Variable v) = ¬ OccursIn atoms (Variable v)

-- the answer term at the place is a variable of no atom
pub record IsLooseAt (q : Query) (place : ℕ) : Type 0 where
  pub variable : ℕ
  pub stands : slice_get q.answers place ≡ Some (Variable variable)
  pub loose : ¬ OccursIn q.atoms (Variable variable)

-- it is the first such place
pub record IsFirstLoose (q : Query) (place : ℕ) : Type 0 where
  pub here : IsLooseAt q place
  pub first : (earlier : ℕ) → earlier < place → ¬ IsLooseAt q earlier

-- it is the place of the first unsafe answer, or no answer is unsafe
abbrev pub IsFirstLooseAnswer : Query → Option ℕ → Type 0
IsFirstLooseAnswer q None = (place : ℕ) → ¬ IsLooseAt q place
IsFirstLooseAnswer q (Some place) = IsFirstLoose q place

-- The first unsafe answer; or, where no answer is unsafe, the number of different atoms, which is above the limit. Want
-- of memory is free.
abbrev pub IsQueryFault : Query → QueryFault → Type 0
IsQueryFault q (Unsafe place) = IsFirstLoose q place
IsQueryFault q (TooManyAtoms count) = ((place : ℕ) → ¬ IsLooseAt q place) × (count ≡ length (each_once q.atoms)) × (ATOMS < count)
IsQueryFault q Memory = Unit {0}

-- the second query is the first one with its variables numbered, of which there are not too many
pub record IsNumberedFrom (q numbered : Query) : Type 0 where
  pub same : numbered ≡ numbered_query q
  pub few : length (query_order q) ≤ VARIABLES
