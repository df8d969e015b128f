-- The texts of statements, with each name and value between quotes.
use Rattle.std.specs.Prelude.{ℕ, zero, suc, ◌+◌, nat_eq, if◌then◌else◌, List, [], ◌∷◌, ◌++◌, map, codes, decimal}
use Rattle.std.specs.List.{flat_map}
use Rattle.std.specs.Char.{to_ascii_lowercase}
use Rattle.ucq_terms.specs.declared.Term.{Term}
use Rattle.ucq_terms.specs.declared.Term.TheVariants.{Constant, Variable}
use Rattle.ucq_terms.specs.Syntax.{Atom}
use Rattle.ucq_terms.specs.Names.{name_text}
use Rattle.ucq_sql.specs.declared.algebra.Column.{Column}
use Rattle.ucq_sql.specs.declared.algebra.Table.{Table}
use Rattle.ucq_sql.specs.declared.algebra.Output.{Output}
use Rattle.ucq_sql.specs.declared.algebra.Output.TheVariants.{Read, Value, One}
use Rattle.ucq_sql.specs.declared.algebra.Condition.{Condition}
use Rattle.ucq_sql.specs.declared.algebra.Condition.TheVariants.{Same, Is}
use Rattle.ucq_sql.specs.Places.{by_place}
use Rattle.ucq_sql.specs.Algebra.{Select}

-- the quote of names, and that of values
abbrev pub name_quote : ℕ
name_quote = 34

abbrev pub value_quote : ℕ
value_quote = 39

-- the bytes, with each quote among them twice
abbrev pub doubled : ℕ → List ℕ → List ℕ
doubled quote bytes = flat_map (λ b. if nat_eq b quote then b ∷ b ∷ [] else b ∷ []) bytes

-- the bytes between quotes
abbrev pub quoted : ℕ → List ℕ → List ℕ
quoted quote bytes = (quote ∷ []) ++ doubled quote bytes ++ quote ∷ []

-- A table is named by its predicate's text and its arity.
abbrev pub bare_name : List (List ℕ) → Table → List ℕ
bare_name names table = name_text names table.name ++ codes "/" ++ decimal table.arity

abbrev pub table_name : List (List ℕ) → Table → List ℕ
table_name names table = quoted name_quote (bare_name names table)

-- a table's name, where the case of letters means nothing
abbrev pub caseless_name : List (List ℕ) → Table → List ℕ
caseless_name names table = map to_ascii_lowercase (bare_name names table)

-- A constant's value is its text.
abbrev pub value_text : List (List ℕ) → ℕ → List ℕ
value_text names value = quoted value_quote (name_text names value)

-- The columns are c1, c2 and so on, and the aliases t0, t1 and so on.
abbrev pub column_name : ℕ → List ℕ
column_name place = codes "c" ++ decimal (place + 1)

abbrev pub alias_text : ℕ → List ℕ
alias_text alias = codes "t" ++ decimal alias

abbrev pub column_text : Column → List ℕ
column_text c = alias_text c.alias ++ codes "." ++ column_name c.column

abbrev pub output_text : List (List ℕ) → Output → List ℕ
output_text names (Read c) = column_text c
output_text names (Value value) = value_text names value
output_text names One = codes "1"

abbrev pub condition_text : List (List ℕ) → Condition → List ℕ
condition_text names (Same a b) = column_text a ++ codes " = " ++ column_text b
condition_text names (Is a value) = column_text a ++ codes " = " ++ value_text names value

-- what stands before the element at a place of a list with commas
abbrev pub comma_before : ℕ → List ℕ
comma_before zero = []
comma_before (suc place) = codes ", "

-- outputs with commas, each named as a column by its place
abbrev pub listed_text : List (List ℕ) → ℕ → Output → List ℕ
listed_text names place output = comma_before place ++ output_text names output ++ codes " AS " ++ column_name place

abbrev pub outputs_text : List (List ℕ) → List Output → List ℕ
outputs_text names outputs = by_place (listed_text names) 0 outputs

-- tables with commas, each with its alias
abbrev pub aliased_text : List (List ℕ) → ℕ → Table → List ℕ
aliased_text names place table = comma_before place ++ table_name names table ++ codes " AS " ++ alias_text place

abbrev pub from_text : List (List ℕ) → List Table → List ℕ
from_text names tables = by_place (aliased_text names) 0 tables

-- what stands before a condition, by how many stand before it
abbrev pub word_before : ℕ → List ℕ
word_before zero = codes " WHERE "
word_before (suc place) = codes " AND "

-- conditions that stand behind so many others
abbrev pub led_text : List (List ℕ) → ℕ → Condition → List ℕ
led_text names before condition = word_before before ++ condition_text names condition

abbrev pub conditions_text : List (List ℕ) → ℕ → List Condition → List ℕ
conditions_text names before conditions = by_place (led_text names) before conditions

abbrev pub select_text : List (List ℕ) → Select → List ℕ
select_text names select =
    codes "SELECT DISTINCT " ++ outputs_text names select.outputs ++ codes " FROM " ++ from_text names select.from ++ conditions_text names 0 select.conditions

-- what stands before the select at a place of a statement
abbrev pub union_before : ℕ → List ℕ
union_before zero = []
union_before (suc place) = codes "\nUNION "

abbrev pub member_text : List (List ℕ) → ℕ → Select → List ℕ
member_text names place select = union_before place ++ select_text names select

abbrev pub selects_text : List (List ℕ) → List Select → List ℕ
selects_text names selects = by_place (member_text names) 0 selects

-- A statement has a line for each of its selects, and ends with a semicolon and a line feed.
abbrev pub statement_text : List (List ℕ) → List Select → List ℕ
statement_text names selects = selects_text names selects ++ codes ";\n"

-- so many columns with commas, each with its type
abbrev pub columns_text : ℕ → List ℕ
columns_text zero = []
columns_text (suc place) = columns_text place ++ comma_before place ++ column_name place ++ codes " VARCHAR"

-- The line that makes a table where there is none.
abbrev pub table_line : List (List ℕ) → Table → List ℕ
table_line names table = codes "CREATE TABLE IF NOT EXISTS " ++ table_name names table ++ codes " (" ++ columns_text table.arity ++ codes ");\n"

-- the value of a term of a fact; none of an unknown value
abbrev pub term_text : List (List ℕ) → Term → List ℕ
term_text names (Constant c) = value_text names c
term_text names (Variable v) = []

abbrev pub values_text : List (List ℕ) → List Term → List ℕ
values_text names terms = by_place (λ place term. comma_before place ++ term_text names term) 0 terms

-- a row of a table between parentheses
abbrev pub row_text : List (List ℕ) → Atom → List ℕ
row_text names fact = codes "(" ++ values_text names fact.terms ++ codes ")"

abbrev pub rows_text : List (List ℕ) → List Atom → List ℕ
rows_text names facts = by_place (λ place fact. comma_before place ++ row_text names fact) 0 facts

-- The line that puts facts into their table.
abbrev pub facts_line : List (List ℕ) → Table → List Atom → List ℕ
facts_line names table facts = codes "INSERT INTO " ++ table_name names table ++ codes " VALUES " ++ rows_text names facts ++ codes ";\n"
