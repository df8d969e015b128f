-- The select of a stored query has numbers that are printed.
use Rattle.std.proofs.Common.{◌≡◌, ℕ, suc, ◌+◌, ◌<◌, ◌≤◌, ◌^◌, Bool, true, false, cond, List, [], ◌∷◌, length, map, All, Contains, refl, subst, arith, inl, inr}
use Rattle.std.specs.Prelude.{Some, None}
use Rattle.std.specs.List.{list_any, position_or_len}
use Rattle.std.proofs.lemmas.List.Elements.{All-contains}
use Rattle.std.proofs.lemmas.Option.{slice_get_within}
use Rattle.ucq_terms.specs.declared.Term.{Term}
use Rattle.ucq_terms.specs.declared.Term.TheVariants.{Constant, Variable}
use Rattle.ucq_terms.specs.Syntax.{Atom, Query}
use Rattle.ucq_terms.specs.Query.{IsStored}
use Rattle.ucq_terms.specs.Numbering.{term_eq}
use Rattle.ucq_terms.proofs.Lists.{Contains-cons_cases, Contains-empty, Contains-from_map, All-from_contains}
use Rattle.ucq_terms.proofs.Numbering.{position_below}
use Rattle.ucq_terms.proofs.Texts.{Contains-slice_get}
use Rattle.ucq_chase.specs.Names.{IsHeldTerm, IsHeldAtom, IsHeldQuery}
use Rattle.ucq_sql.specs.declared.algebra.Output.TheVariants.{One}
use Rattle.ucq_sql.specs.declared.algebra.Condition.{Condition}
use Rattle.ucq_sql.specs.declared.algebra.Condition.TheVariants.{Same, Is}
use Rattle.ucq_sql.specs.Selects.{column_eq, condition_of, conditions_of, first_column, first_column_from, output_of, outputs_of, table_of}
use Rattle.ucq_sql.specs.Laws.{AreSmall, IsPrintedColumn, IsPrintedTable, IsPrintedOutput, IsPrintedCondition, StoredArePrinted}
use Rattle.ucq_sql.proofs.Meaning.{Origin, origin}
use Rattle.ucq_sql.proofs.Reading.{first_of, rest_of}

-- a first column's numbers are small
first_small : (alias : ℕ) (atoms : List Atom) (t : Term) → alias + length atoms < 2 ^ 32 → AreSmall atoms → IsPrintedColumn (first_column_from alias atoms t)
first_small alias [] t few small = record { alias = omega arith; column = omega arith }
first_small alias (a ∷ atoms) t few small = go (list_any (term_eq t) a.terms) refl (first_small (suc alias) atoms t (omega arith) (rest_of (λ (b : Atom). length b.terms ≤ 16) a atoms small))
  where
    go : (here : Bool) → list_any (term_eq t) a.terms ≡ here → IsPrintedColumn (first_column_from (suc alias) atoms t) →
        IsPrintedColumn (cond here (record { alias = alias; column = position_or_len (term_eq t) a.terms }) (first_column_from (suc alias) atoms t))
    go true e later =
        let inside = position_below term_eq a.terms t e in
        let size = first_of (λ (b : Atom). length b.terms ≤ 16) a atoms small in
        record { alias = omega arith; column = omega (arith, inside, size) }
    go false e later = later

module _ (names : List (List ℕ)) (q : Query) (stored : IsStored q) (small : AreSmall q.atoms) (held : IsHeldQuery (length names) q) where
  first_printed : (t : Term) → IsPrintedColumn (first_column q.atoms t)
  first_printed t = let few = stored.few_atoms in first_small 0 q.atoms t (omega arith) small

  output_printed : (t : Term) → IsHeldTerm (length names) t → IsPrintedOutput names (output_of q.atoms t)
  output_printed (Constant c) h = h
  output_printed (Variable v) h = first_printed (Variable v)

  outputs_printed : (ts : List Term) → All (IsHeldTerm (length names)) ts → All (IsPrintedOutput names) (outputs_of q.atoms ts)
  outputs_printed [] h = All-from_contains (IsPrintedOutput names) (One ∷ []) (λ o i. elim (Contains-cons_cases One [] o i) [
    | inl is ↦ let one : IsPrintedOutput names One = tt in subst (IsPrintedOutput names) is one
    | inr j ↦ absurd (Contains-empty o j)
  ])
  outputs_printed (t ∷ ts) h =
      All-from_contains (IsPrintedOutput names) (map (output_of q.atoms) (t ∷ ts))
      (λ o i. let (u, j, is) = Contains-from_map (output_of q.atoms) (t ∷ ts) o i in subst (IsPrintedOutput names) is (output_printed u (All-contains (IsHeldTerm (length names)) (t ∷ ts) u h j)))

  tables_printed : All (IsPrintedTable names) (map table_of q.atoms)
  tables_printed =
      All-from_contains (IsPrintedTable names) (map table_of q.atoms)
      (λ t i. let (a, j, is) = Contains-from_map table_of q.atoms t i in
      let name = (All-contains (IsHeldAtom (length names)) q.atoms a held.atoms j).name in
      let size = All-contains (λ (b : Atom). length b.terms ≤ 16) q.atoms a small j in
      let printed : IsPrintedTable names (table_of a) = record { name = name; arity = omega (arith, size) } in
      subst (IsPrintedTable names) is printed)

  condition_printed : (condition : Condition) → Contains (conditions_of q.atoms) condition → IsPrintedCondition names condition
  condition_printed condition i = go (origin q.atoms condition i)
    where
      go : Origin q.atoms condition → IsPrintedCondition names condition
      go o = from_term o.term o.condition_is (All-contains (IsHeldTerm (length names)) o.atom.terms o.term (All-contains (IsHeldAtom (length names)) q.atoms o.atom held.atoms among).terms (Contains-slice_get o.atom.terms o.column o.term o.term_is))
        where
          among : Contains q.atoms o.atom
          among = Contains-slice_get q.atoms o.alias o.atom o.atom_is

          here : IsPrintedColumn (record { alias = o.alias; column = o.column })
          here =
              let few = stored.few_atoms in
              let size = All-contains (λ (b : Atom). length b.terms ≤ 16) q.atoms o.atom small among in
              let place = slice_get_within q.atoms o.alias o.atom o.atom_is in
              let inside = slice_get_within o.atom.terms o.column o.term o.term_is in
              record { alias = omega arith; column = omega (arith, size, inside) }

          from_variable : (v : ℕ) (same : Bool) → cond same None (Some (Same (record { alias = o.alias; column = o.column }) (first_column q.atoms (Variable v)))) ≡ Some condition → IsPrintedCondition names condition
          from_variable v true e = absurd cc
          from_variable v false e =
              let is : Same (record { alias = o.alias; column = o.column }) (first_column q.atoms (Variable v)) ≡ condition = cc in
              subst (IsPrintedCondition names) is (here, first_printed (Variable v))

          from_term : (t : Term) → condition_of q.atoms (record { alias = o.alias; column = o.column }) t ≡ Some condition → IsHeldTerm (length names) t → IsPrintedCondition names condition
          from_term (Constant c) e h = let is : Is (record { alias = o.alias; column = o.column }) c ≡ condition = cc in subst (IsPrintedCondition names) is (here, h)
          from_term (Variable v) e h = from_variable v (column_eq (record { alias = o.alias; column = o.column }) (first_column q.atoms (Variable v))) e

pub stored_are_printed : StoredArePrinted
stored_are_printed names q stored small held = record {
  outputs = outputs_printed names q stored small held q.answers held.answers;
  from = tables_printed names q stored small held;
  conditions = All-from_contains (IsPrintedCondition names) (conditions_of q.atoms) (condition_printed names q stored small held);
}
