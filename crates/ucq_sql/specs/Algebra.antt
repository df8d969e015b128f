-- A small algebra of selects and their unions, and its meaning over tables, as relations. (Standard: select, project, join
-- and union; Abiteboul, Hull and Vianu 1995.)
use Rattle.std.specs.Prelude.{◌≡◌, ◌≢◌, ◌↔◌, ℕ, List, [], ◌∷◌, map, slice_get, All, AllPairs, Any, Contains, Option, Some}
use Rattle.std.specs.Option.{option_map, option_and_then}
use Rattle.ucq_sql.specs.declared.algebra.Column.{Column}
use Rattle.ucq_sql.specs.declared.algebra.Table.{Table}
use Rattle.ucq_sql.specs.declared.algebra.Output.{Output}
use Rattle.ucq_sql.specs.declared.algebra.Output.TheVariants.{Read, Value, One}
use Rattle.ucq_sql.specs.declared.algebra.Condition.{Condition}
use Rattle.ucq_sql.specs.declared.algebra.Condition.TheVariants.{Same, Is}

-- What it lists, the tables that it chooses rows from, and the conditions on these rows.
pub record Select : Type 0 where
  pub outputs : List Output
  pub from : List Table
  pub conditions : List Condition

-- the rows of each table; a row is a list of values, and a value is the number of a constant
abbrev pub Tables : Type 0
Tables = Table → List (List ℕ)

-- one row of each table of the list, in order
abbrev pub AreChosen : Tables → List Table → List (List ℕ) → Type 0
AreChosen tables [] [] = Unit {0}
AreChosen tables [] (r ∷ rs) = ⊥
AreChosen tables (t ∷ ts) [] = ⊥
AreChosen tables (t ∷ ts) (r ∷ rs) = Contains (tables t) r × AreChosen tables ts rs

-- the value in a column of the chosen rows
abbrev pub value_at : List (List ℕ) → Column → Option ℕ
value_at rows c = option_and_then (λ row. slice_get row c.column) (slice_get rows c.alias)

-- the two columns hold one value; or the column holds this value
abbrev pub Holds : List (List ℕ) → Condition → Type 0
Holds rows (Same a b) = (value : ℕ) × (value_at rows a ≡ Some value) × (value_at rows b ≡ Some value)
Holds rows (Is a value) = value_at rows a ≡ Some value

-- What stands in a row of a result: the text of a constant, or the number 1.
pub data Cell : Type 0 where
  text : ℕ → Cell
  one : Cell

-- what an output lists of the chosen rows
abbrev pub cell_of : List (List ℕ) → Output → Option Cell
cell_of rows (Read c) = option_map text (value_at rows c)
cell_of rows (Value value) = Some (text value)
cell_of rows One = Some one

-- For some choice of a row of each of its tables, all its conditions hold, and its outputs are the cells of the row.
pub record Yields (tables : Tables) (select : Select) (row : List Cell) : Type 0 where
  pub chosen : List (List ℕ)
  pub rows : AreChosen tables select.from chosen
  pub conditions : All (Holds chosen) select.conditions
  pub outputs : map (cell_of chosen) select.outputs ≡ map Some row

-- A statement is a list of selects that are joined by union: one of them yields the row.
abbrev pub StatementYields : Tables → List Select → List Cell → Type 0
StatementYields tables selects row = Any (λ select. Yields tables select row) selects

-- What a statement gives, for its selects are distinct and union drops what is there already: each row that it yields, once,
-- in some order.
pub record AreResults (tables : Tables) (selects : List Select) (rows : List (List Cell)) : Type 0 where
  pub each : (row : List Cell) → Contains rows row ↔ StatementYields tables selects row
  pub once : AllPairs (λ a b. a ≢ b) rows
