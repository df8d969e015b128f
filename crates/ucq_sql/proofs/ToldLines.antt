-- The lines that make tables and put facts there are read in one way.
use Rattle.std.proofs.Common.{◌≡◌, ◌≢◌, ℕ, zero, suc, List, [], ◌∷◌, ◌++◌, All, AllPairs, append_assoc, refl, sym, ap, ◌∙◌, subst, arith}
use Rattle.std.specs.Prelude.{codes}
use Rattle.ucq_terms.specs.declared.Term.{Term}
use Rattle.ucq_terms.specs.declared.Term.TheVariants.{Constant, Variable}
use Rattle.ucq_terms.specs.Syntax.{Atom}
use Rattle.ucq_terms.proofs.Decide.{atom_path}
use Rattle.ucq_sql.specs.declared.algebra.Table.{Table}
use Rattle.ucq_sql.specs.Places.{by_place}
use Rattle.ucq_sql.specs.Text.{columns_text, comma_before, row_text, rows_text, table_name, term_text, values_text}
use Rattle.ucq_sql.specs.Laws.{IsPrintedFact, IsPrintedTerm, FactsLinesTellFacts, TableLinesTellTables}
use Rattle.ucq_sql.proofs.Reading.{heads, cancel, AreOne, Begins, IsStop, space_stops, comma_stops, close_stops, list_apart}
use Rattle.ucq_sql.proofs.ReadBack.{table_apart, value_apart}

space : (x : List ℕ) → Begins IsStop (32 ∷ x)
space x = record { byte = 32; after = x; is = refl; holds = space_stops }

three_parts : (a b c x : List ℕ) → ((a ++ b) ++ c) ++ x ≡ a ++ (b ++ (c ++ x))
three_parts a b c x = simp append_assoc

five_parts : (a b c d e x : List ℕ) → ((((a ++ b) ++ c) ++ d) ++ e) ++ x ≡ a ++ (b ++ (c ++ (d ++ (e ++ x))))
five_parts a b c d e x = simp append_assoc

module _ (names : List (List ℕ)) (different : AllPairs (λ m n. m ≢ n) names) where
  -- values with commas, before a closing parenthesis
  abbrev listed : ℕ → Term → List ℕ
  listed place term = comma_before place ++ term_text names term

  abbrev IsClose : List ℕ → Type 0
  IsClose x = Begins (λ b. b ≡ 41) x

  term_apart : (a b : Term) (x y : List ℕ) → IsPrintedTerm names a → IsPrintedTerm names b → Begins IsStop x → Begins IsStop y → term_text names a ++ x ≡ term_text names b ++ y → AreOne a b x y
  term_apart (Constant c) (Constant d) x y h k i j e = let one = value_apart names different c d x y h k i j e in record { front = ap Constant one.front; rest = one.rest }
  term_apart (Constant c) (Variable w) x y h k i j e = absurd k
  term_apart (Variable v) b x y h k i j e = absurd h

  listed_apart : (place : ℕ) (a b : Term) (x y : List ℕ) → IsPrintedTerm names a → IsPrintedTerm names b → Begins IsStop x → Begins IsStop y → listed place a ++ x ≡ listed place b ++ y → AreOne a b x y
  listed_apart place a b x y h k i j e =
      term_apart a b x y h k i j (cancel (comma_before place) _ _ (sym (append_assoc (comma_before place) (term_text names a) x) ∙ (e ∙ append_assoc (comma_before place) (term_text names b) y)))

  values_begin : (place : ℕ) (a : Term) (x y : List ℕ) → IsPrintedTerm names a → IsClose y → listed place a ++ x ≡ y → ⊥
  values_begin place (Variable v) x y h k e = h
  values_begin zero (Constant c) x y h k e = omega (arith, heads (e ∙ k.is), k.holds)
  values_begin (suc place) (Constant c) x y h k e = omega (arith, heads (e ∙ k.is), k.holds)

  values_go_on : (place : ℕ) (ps : List Term) (x : List ℕ) → IsClose x → Begins IsStop (by_place listed (suc place) ps ++ x)
  values_go_on place [] x h = record { byte = 41; after = h.after; is = h.is ∙ ap (λ b. b ∷ h.after) h.holds; holds = close_stops }
  values_go_on place (p ∷ ps) x h = record { byte = 44; after = 32 ∷ ((term_text names p ++ by_place listed (suc (suc place)) ps) ++ x); is = refl; holds = comma_stops }

  values_apart : (ps qs : List Term) (x y : List ℕ) → All (IsPrintedTerm names) ps → All (IsPrintedTerm names) qs → IsClose x → IsClose y → values_text names ps ++ x ≡ values_text names qs ++ y → AreOne ps qs x y
  values_apart ps qs x y h k i j e = list_apart listed (IsPrintedTerm names) (Begins IsStop) IsClose listed_apart values_begin values_go_on 0 ps qs x y h k i j e

  -- rows of one table, with commas, before a semicolon
  close : (x : List ℕ) → IsClose (codes ")" ++ x)
  close x = record { byte = 41; after = x; is = refl; holds = refl }

  abbrev led : ℕ → Atom → List ℕ
  led place fact = comma_before place ++ row_text names fact

  abbrev IsSemicolon : List ℕ → Type 0
  IsSemicolon x = Begins (λ b. b ≡ 59) x

  module _ (table : Table) where
    row_apart : (a b : Atom) (x y : List ℕ) → IsPrintedFact names table a → IsPrintedFact names table b → row_text names a ++ x ≡ row_text names b ++ y → AreOne a b x y
    row_apart a b x y h k e =
        let whole = cancel (codes "(") _ _ (sym (three_parts (codes "(") (values_text names a.terms) (codes ")") x) ∙ (e ∙ three_parts (codes "(") (values_text names b.terms) (codes ")") y)) in
        let one = values_apart a.terms b.terms (codes ")" ++ x) (codes ")" ++ y) h.terms k.terms (close x) (close y) whole in
        record { front = atom_path a b (h.of_table.0 ∙ sym k.of_table.0) one.front; rest = cancel (codes ")") x y one.rest }

    led_apart : (place : ℕ) (a b : Atom) (x y : List ℕ) → IsPrintedFact names table a → IsPrintedFact names table b → Unit {0} → Unit {0} → led place a ++ x ≡ led place b ++ y → AreOne a b x y
    led_apart place a b x y h k i j e =
        row_apart a b x y h k (cancel (comma_before place) _ _ (sym (append_assoc (comma_before place) (row_text names a) x) ∙ (e ∙ append_assoc (comma_before place) (row_text names b) y)))

    rows_begin : (place : ℕ) (a : Atom) (x y : List ℕ) → IsPrintedFact names table a → IsSemicolon y → led place a ++ x ≡ y → ⊥
    rows_begin zero a x y h k e = omega (arith, heads (e ∙ k.is), k.holds)
    rows_begin (suc place) a x y h k e = omega (arith, heads (e ∙ k.is), k.holds)

    rows_apart : (ps qs : List Atom) (x y : List ℕ) → All (IsPrintedFact names table) ps → All (IsPrintedFact names table) qs → IsSemicolon x → IsSemicolon y → rows_text names ps ++ x ≡ rows_text names qs ++ y → AreOne ps qs x y
    rows_apart ps qs x y h k i j e = list_apart led (IsPrintedFact names table) (λ _. Unit {0}) IsSemicolon led_apart rows_begin (λ _ _ _ _. tt) 0 ps qs x y h k i j e

pub table_lines_tell_tables : TableLinesTellTables
table_lines_tell_tables names a b x y different h k e =
    let rest : Table → List ℕ → List ℕ = λ t z. columns_text t.arity ++ (codes ");\n" ++ z) in
    let whole = cancel (codes "CREATE TABLE IF NOT EXISTS ") _ _
    (sym (five_parts (codes "CREATE TABLE IF NOT EXISTS ") (table_name names a) (codes " (") (columns_text a.arity) (codes ");\n") x) ∙
    (e ∙ five_parts (codes "CREATE TABLE IF NOT EXISTS ") (table_name names b) (codes " (") (columns_text b.arity) (codes ");\n") y)) in
    let one = table_apart names different a b (codes " (" ++ rest a x) (codes " (" ++ rest b y) h k (space (codes "(" ++ rest a x)) (space (codes "(" ++ rest b y)) whole in
    let columns : columns_text a.arity ++ (codes ");\n" ++ x) ≡ columns_text a.arity ++ (codes ");\n" ++ y) =
    cancel (codes " (") _ _ one.rest ∙ ap (λ (t : Table). columns_text t.arity ++ (codes ");\n" ++ y)) (sym one.front) in
    (one.front, cancel (codes ");\n") x y (cancel (columns_text a.arity) _ _ columns))

pub facts_lines_tell_facts : FactsLinesTellFacts
facts_lines_tell_facts names a b facts others x y different h k of_a of_b e =
    let whole = cancel (codes "INSERT INTO ") _ _
    (sym (five_parts (codes "INSERT INTO ") (table_name names a) (codes " VALUES ") (rows_text names facts) (codes ";\n") x) ∙
    (e ∙ five_parts (codes "INSERT INTO ") (table_name names b) (codes " VALUES ") (rows_text names others) (codes ";\n") y)) in
    let one = table_apart names different a b (codes " VALUES " ++ (rows_text names facts ++ (codes ";\n" ++ x))) (codes " VALUES " ++ (rows_text names others ++ (codes ";\n" ++ y))) h k
    (space (codes "VALUES " ++ (rows_text names facts ++ (codes ";\n" ++ x)))) (space (codes "VALUES " ++ (rows_text names others ++ (codes ";\n" ++ y)))) whole in
    let of_both = subst (λ (t : Table). All (IsPrintedFact names t) others) (sym one.front) of_b in
    let rows = rows_apart names different a facts others (codes ";\n" ++ x) (codes ";\n" ++ y) of_a of_both
    (record { byte = 59; after = 10 ∷ x; is = refl; holds = refl }) (record { byte = 59; after = 10 ∷ y; is = refl; holds = refl }) (cancel (codes " VALUES ") _ _ one.rest) in
    (one.front, rows.front, cancel (codes ";\n") x y rows.rest)
