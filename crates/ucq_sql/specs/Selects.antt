-- The select that stands for a query, and the statement that stands for a union.
use Rattle.std.specs.Prelude.{ℕ, suc, Bool, ◌&&◌, nat_eq, if◌then◌else◌, List, [], ◌∷◌, ◌++◌, fold, map, length, Option, Some, None}
use Rattle.std.specs.List.{list_any, position_or_len}
use Rattle.std.specs.Option.{option_to_list}
use Rattle.ucq_terms.specs.declared.Term.{Term}
use Rattle.ucq_terms.specs.declared.Term.TheVariants.{Constant, Variable}
use Rattle.ucq_terms.specs.Syntax.{Atom, Query}
use Rattle.ucq_terms.specs.Numbering.{term_eq}
use Rattle.ucq_sql.specs.declared.algebra.Column.{Column}
use Rattle.ucq_sql.specs.declared.algebra.Table.{Table}
use Rattle.ucq_sql.specs.declared.algebra.Output.{Output}
use Rattle.ucq_sql.specs.declared.algebra.Output.TheVariants.{Read, Value, One}
use Rattle.ucq_sql.specs.declared.algebra.Condition.{Condition}
use Rattle.ucq_sql.specs.declared.algebra.Condition.TheVariants.{Same, Is}
use Rattle.ucq_sql.specs.Places.{by_place}
use Rattle.ucq_sql.specs.Algebra.{Select}

-- an atom's table has its predicate's name, and a column for each of its terms
abbrev pub table_of : Atom → Table
table_of a = record { name = a.name; arity = length a.terms }

-- whether two tables are one
abbrev pub table_eq : Table → Table → Bool
table_eq a b = nat_eq a.name b.name && nat_eq a.arity b.arity

-- the tables with further ones after them, each once
abbrev pub with_tables : List Table → List Table → List Table
with_tables tables more = fold (λ seen t. if list_any (table_eq t) seen then seen else seen ++ t ∷ []) tables more

-- whether two columns are one
abbrev pub column_eq : Column → Column → Bool
column_eq a b = nat_eq a.alias b.alias && nat_eq a.column b.column

-- The first column that holds the term, where the first of the atoms has this alias; column 0 of alias 0 where none does.
abbrev pub first_column_from : ℕ → List Atom → Term → Column
first_column_from alias [] t = record { alias = 0; column = 0 }
first_column_from alias (a ∷ atoms) t =
    if list_any (term_eq t) a.terms then record { alias = alias; column = position_or_len (term_eq t) a.terms } else first_column_from (suc alias) atoms t

abbrev pub first_column : List Atom → Term → Column
first_column atoms t = first_column_from 0 atoms t

-- What an answer term lists: a constant its value, and a variable the first column that holds it.
abbrev pub output_of : List Atom → Term → Output
output_of atoms (Constant c) = Value c
output_of atoms (Variable v) = Read (first_column atoms (Variable v))

-- The number 1 where there are no answer terms.
abbrev pub outputs_of : List Atom → List Term → List Output
outputs_of atoms [] = One ∷ []
outputs_of atoms (t ∷ ts) = map (output_of atoms) (t ∷ ts)

-- What a term in a column asks for: a constant that the column holds its value, and a variable that it holds what the first
-- column of the variable does, which that column itself need not be asked.
abbrev pub condition_of : List Atom → Column → Term → Option Condition
condition_of atoms here (Constant c) = Some (Is here c)
condition_of atoms here (Variable v) =
    if column_eq here (first_column atoms (Variable v)) then None else Some (Same here (first_column atoms (Variable v)))

-- the conditions of the terms of an atom; those of the first atoms; and those of all, in order
abbrev pub row_conditions : List Atom → ℕ → List Term → List Condition
row_conditions atoms alias terms =
    by_place (λ column term. option_to_list (condition_of atoms (record { alias = alias; column = column }) term)) 0 terms

abbrev pub conditions_in : List Atom → List Atom → List Condition
conditions_in atoms first = by_place (λ alias (atom : Atom). row_conditions atoms alias atom.terms) 0 first

abbrev pub conditions_of : List Atom → List Condition
conditions_of atoms = conditions_in atoms atoms

abbrev pub select_of : Query → Select
select_of q = record { outputs = outputs_of q.atoms q.answers; from = map table_of q.atoms; conditions = conditions_of q.atoms }

-- a select for each member
abbrev pub statement_of : List Query → List Select
statement_of union = map select_of union
