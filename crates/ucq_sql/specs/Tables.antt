-- The tables of facts.
use Rattle.std.specs.Prelude.{◌≡◌, ◌<◌, ◌≤◌, ℕ, ◌↔◌, List, [], ◌∷◌, map, length, take, slice_get, Some, All, Contains}
use Rattle.ucq_terms.specs.declared.Term.{Term}
use Rattle.ucq_terms.specs.declared.Term.TheVariants.{Constant, Variable}
use Rattle.ucq_terms.specs.Syntax.{Atom}
use Rattle.ucq_sql.specs.declared.algebra.Table.{Table}
use Rattle.ucq_sql.specs.Algebra.{Tables, Cell, text, one}

-- the constants of a tuple, as terms
abbrev pub constants : List ℕ → List Term
constants tuple = map Constant tuple

-- the fact that a row of a table stands for
abbrev pub fact_of : Table → List ℕ → Atom
fact_of table row = record { name = table.name; terms = constants row }

-- A row stands in a table exactly where it is as wide as the table, and its fact is one of the facts.
pub record AreTablesOf (facts : List Atom) (tables : Tables) : Type 0 where
  pub rows : (table : Table) (row : List ℕ) → Contains (tables table) row ↔ ((length row ≡ table.arity) × Contains facts (fact_of table row))

-- a term that is a constant, an atom of constants, and facts of constants
abbrev pub IsConstant : Term → Type 0
IsConstant (Constant c) = Unit {0}
IsConstant (Variable v) = ⊥

abbrev pub IsOfConstants : Atom → Type 0
IsOfConstants a = All IsConstant a.terms

abbrev pub AreOfConstants : List Atom → Type 0
AreOfConstants facts = All IsOfConstants facts

-- the fact is of the table: it has its name and its number of terms
abbrev pub IsOfTable : Table → Atom → Type 0
IsOfTable table a = (a.name ≡ table.name) × (length a.terms ≡ table.arity)

-- the first fact with an unknown value stands at this place
pub record IsFirstUnknown (facts : List Atom) (place : ℕ) : Type 0 where
  pub fact : Atom
  pub stands : slice_get facts place ≡ Some fact
  pub unknown : ¬ IsOfConstants fact
  pub before : AreOfConstants (take place facts)

-- So many of the first facts are of the table, and the next one isn't, or there are as many as are wanted, or no more.
pub record IsRun (table : Table) (facts : List Atom) (most count : ℕ) : Type 0 where
  pub of_table : All (IsOfTable table) (take count facts)
  pub within : count ≤ length facts
  pub few : count ≤ most
  pub ends : (fact : Atom) → count < most → slice_get facts count ≡ Some fact → ¬ IsOfTable table fact

-- The row of a result that stands for a tuple: its constants' texts. The empty tuple is the number 1, for a row has a cell.
abbrev pub row_of : List ℕ → List Cell
row_of [] = one ∷ []
row_of (c ∷ cs) = map text (c ∷ cs)
