-- Facts have tables.
use Rattle.std.proofs.Common.{◌≡◌, ℕ, nat_eq, Bool, true, false, cond, ◌&&◌, List, [], ◌∷◌, length, map, flat_map, Contains, refl, sym, ap, ◌∙◌, subst, inl, inr}
use Rattle.std.specs.List.{list_all}
use Rattle.std.proofs.lemmas.Bool.{and_parts, and_from}
use Rattle.std.proofs.lemmas.Bool.Decides.{Decides-eqb}
use Rattle.std.proofs.lemmas.List.{length-map}
use Rattle.ucq_terms.specs.declared.Term.{Term}
use Rattle.ucq_terms.specs.declared.Term.TheVariants.{Constant, Variable}
use Rattle.ucq_terms.specs.Syntax.{Atom}
use Rattle.ucq_terms.proofs.Decide.{atom_path}
use Rattle.ucq_terms.proofs.Lists.{Contains-first, Contains-cons_cases, Contains-empty, Contains-flat_map, Contains-from_flat_map}
use Rattle.ucq_sql.specs.declared.algebra.Table.{Table}
use Rattle.ucq_sql.specs.Algebra.{Tables}
use Rattle.ucq_sql.specs.Tables.{constants, fact_of}
use Rattle.ucq_sql.specs.Laws.{FactsHaveTables}
use Rattle.ucq_sql.proofs.Rows.{number_of}

is_constant : Term → Bool
is_constant (Constant c) = true
is_constant (Variable v) = false

-- the fact's row, where the fact is of the table
is_of : Table → Atom → Bool
is_of table a = nat_eq a.name table.name && (nat_eq (length a.terms) table.arity && list_all is_constant a.terms)

rows_in : Table → Atom → List (List ℕ)
rows_in table a = cond (is_of table a) (map number_of a.terms ∷ []) []

tables_of : List Atom → Tables
tables_of facts = λ table. flat_map (rows_in table) facts

back : (ts : List Term) → list_all is_constant ts ≡ true → constants (map number_of ts) ≡ ts
unfolding is_constant
back [] e = refl
back (Constant c ∷ ts) e = ap (λ us. Constant c ∷ us) (back ts (and_parts true (list_all is_constant ts) e).1)
back (Variable v ∷ ts) e = absurd cc

forth : (row : List ℕ) → map number_of (constants row) ≡ row
forth [] = refl
forth (c ∷ row) = ap (λ cs. c ∷ cs) (forth row)

all_constant : (row : List ℕ) → list_all is_constant (constants row) ≡ true
unfolding is_constant
all_constant [] = refl
all_constant (c ∷ row) = all_constant row

from_row : (table : Table) (row : List ℕ) (a : Atom) → Contains (rows_in table a) row → (length row ≡ table.arity) × (a ≡ fact_of table row)
unfolding rows_in is_of
from_row table row a h = go (is_of table a) refl h
  where
    go : (b : Bool) → is_of table a ≡ b → Contains (cond b (map number_of a.terms ∷ []) []) row → (length row ≡ table.arity) × (a ≡ fact_of table row)
    go false e i = absurd (Contains-empty row i)
    go true e i = elim (Contains-cons_cases (map number_of a.terms) [] row i) [
      | inr j ↦ absurd (Contains-empty row j)
      | inl is ↦
          let (names, more) = and_parts (nat_eq a.name table.name) (nat_eq (length a.terms) table.arity && list_all is_constant a.terms) e in
          let (sizes, all) = and_parts (nat_eq (length a.terms) table.arity) (list_all is_constant a.terms) more in
          let terms : a.terms ≡ constants row = sym (back a.terms all) ∙ ap constants is in
          let size : length row ≡ length a.terms = ap (λ (l : List ℕ). length l) (sym is) ∙ length-map a.terms number_of in
          (size ∙ (Decides-eqb (length a.terms) table.arity).0 sizes, atom_path a (fact_of table row) ((Decides-eqb a.name table.name).0 names) terms)
    ]

to_row : (table : Table) (row : List ℕ) → length row ≡ table.arity → Contains (rows_in table (fact_of table row)) row
unfolding rows_in is_of
to_row table row e =
    let size : length (constants row) ≡ table.arity = length-map row Constant ∙ e in
    let of : is_of table (fact_of table row) ≡ true =
    and_from (nat_eq table.name table.name) (nat_eq (length (constants row)) table.arity && list_all is_constant (constants row)) ((Decides-eqb table.name table.name).1 refl)
    (and_from (nat_eq (length (constants row)) table.arity) (list_all is_constant (constants row)) ((Decides-eqb (length (constants row)) table.arity).1 size) (all_constant row)) in
    subst (λ (b : Bool). Contains (cond b (map number_of (constants row) ∷ []) []) row) (sym of)
    (subst (λ (r : List ℕ). Contains (r ∷ []) row) (sym (forth row)) (Contains-first row []))

pub facts_have_tables : FactsHaveTables
unfolding tables_of
facts_have_tables facts = (
  tables_of facts,
  record {
    rows = λ table row. (
      λ h. let (a, i, j) = Contains-from_flat_map (rows_in table) facts row h in let (size, is) = from_row table row a j in (size, subst (λ (b : Atom). Contains facts b) is i),
      λ h. Contains-flat_map (rows_in table) facts (fact_of table row) row h.1 (to_row table row h.0),
    );
  },
)
