-- What statements mean over the tables of facts, and that a text has one statement.
use Rattle.std.specs.Prelude.{◌≡◌, ◌≢◌, ◌<◌, ◌≤◌, ◌^◌, ◌++◌, ◌↔◌, ℕ, List, length, All, Any, AllPairs, Contains}
use Rattle.ucq_terms.specs.declared.Term.{Term}
use Rattle.ucq_terms.specs.declared.Term.TheVariants.{Constant, Variable}
use Rattle.ucq_terms.specs.Syntax.{Atom, Query, IsSafe}
use Rattle.ucq_terms.specs.Homomorphism.{MapsInto}
use Rattle.ucq_terms.specs.Query.{IsStored}
use Rattle.ucq_chase.specs.Names.{IsHeldQuery}
use Rattle.ucq_sql.specs.declared.algebra.Column.{Column}
use Rattle.ucq_sql.specs.declared.algebra.Table.{Table}
use Rattle.ucq_sql.specs.declared.algebra.Output.{Output}
use Rattle.ucq_sql.specs.declared.algebra.Output.TheVariants.{Read, Value, One}
use Rattle.ucq_sql.specs.declared.algebra.Condition.{Condition}
use Rattle.ucq_sql.specs.declared.algebra.Condition.TheVariants.{Same, Is}
use Rattle.ucq_sql.specs.Algebra.{Select, Tables, Cell, Yields, StatementYields, AreResults}
use Rattle.ucq_sql.specs.Tables.{AreTablesOf, AreOfConstants, IsOfTable, constants, row_of}
use Rattle.ucq_sql.specs.Selects.{select_of, statement_of}
use Rattle.ucq_sql.specs.Text.{facts_line, statement_text, table_line, table_name, value_text}

-- Over the tables of facts, the select of a query yields the row of a tuple exactly where the query maps into the facts with
-- the tuple.
abbrev pub SelectMeansQuery : Type 0
SelectMeansQuery =
    (q : Query) (facts : List Atom) (tables : Tables) (tuple : List ℕ) →
    IsSafe q →
    AreOfConstants facts →
    AreTablesOf facts tables →
    Yields tables (select_of q) (row_of tuple) ↔ MapsInto q facts (constants tuple)

-- and the statement of a union exactly where some member does
abbrev pub StatementMeansUnion : Type 0
StatementMeansUnion =
    (union : List Query) (facts : List Atom) (tables : Tables) (tuple : List ℕ) →
    All IsSafe union →
    AreOfConstants facts →
    AreTablesOf facts tables →
    StatementYields tables (statement_of union) (row_of tuple) ↔ Any (λ q. MapsInto q facts (constants tuple)) union

-- each row that the statement yields, over whatever tables, stands for a tuple, and for one alone
abbrev pub RowsAreTuples : Type 0
RowsAreTuples =
    (union : List Query) (tables : Tables) (row : List Cell) →
    StatementYields tables (statement_of union) row →
    (tuple : List ℕ) × (row ≡ row_of tuple)

abbrev pub RowsTellTuples : Type 0
RowsTellTuples = (a b : List ℕ) → row_of a ≡ row_of b → a ≡ b

-- The rows that the statement gives are those of the answers, each once.
abbrev pub ResultsAreAnswers : Type 0
ResultsAreAnswers =
    (union : List Query) (facts : List Atom) (tables : Tables) (rows : List (List Cell)) →
    All IsSafe union →
    AreOfConstants facts →
    AreTablesOf facts tables →
    AreResults tables (statement_of union) rows →
    ((row : List Cell) → Contains rows row ↔ ((tuple : List ℕ) × (row ≡ row_of tuple) × Any (λ q. MapsInto q facts (constants tuple)) union)) ×
    AllPairs (λ a b. a ≢ b) rows

-- facts of any kind have tables
abbrev pub FactsHaveTables : Type 0
FactsHaveTables = (facts : List Atom) → (tables : Tables) × AreTablesOf facts tables

-- Numbers that are printed are below 2^32, and names are held.
pub record IsPrintedColumn (c : Column) : Type 0 where
  pub alias : c.alias < 2 ^ 32
  pub column : c.column < 2 ^ 32

pub record IsPrintedTable (names : List (List ℕ)) (table : Table) : Type 0 where
  pub name : table.name < length names
  pub arity : table.arity < 2 ^ 32

abbrev pub IsPrintedOutput : List (List ℕ) → Output → Type 0
IsPrintedOutput names (Read c) = IsPrintedColumn c
IsPrintedOutput names (Value value) = value < length names
IsPrintedOutput names One = Unit {0}

abbrev pub IsPrintedCondition : List (List ℕ) → Condition → Type 0
IsPrintedCondition names (Same a b) = IsPrintedColumn a × IsPrintedColumn b
IsPrintedCondition names (Is a value) = IsPrintedColumn a × (value < length names)

-- a select whose names are held and whose numbers have texts of their own
pub record IsPrinted (names : List (List ℕ)) (select : Select) : Type 0 where
  pub outputs : All (IsPrintedOutput names) select.outputs
  pub from : All (IsPrintedTable names) select.from
  pub conditions : All (IsPrintedCondition names) select.conditions

-- atoms of at most 16 terms, as each atom of a stored query is
abbrev pub AreSmall : List Atom → Type 0
AreSmall atoms = All (λ (a : Atom). length a.terms ≤ 16) atoms

-- where the names of a query are held, its select is such
abbrev pub PrintsHeld : List (List ℕ) → Query → Type 0
PrintsHeld names q = IsHeldQuery (length names) q → IsPrinted names (select_of q)

-- as that of each stored query
abbrev pub StoredArePrinted : Type 0
StoredArePrinted =
    (names : List (List ℕ)) (q : Query) →
    IsStored q →
    AreSmall q.atoms →
    PrintsHeld names q

-- Under names that differ, a text has one statement, and what follows the statement is told, too.
abbrev pub TextHasOneStatement : Type 0
TextHasOneStatement =
    (names : List (List ℕ)) (a b : List Select) (x y : List ℕ) →
    AllPairs (λ m n. m ≢ n) names →
    All (IsPrinted names) a →
    All (IsPrinted names) b →
    statement_text names a ++ x ≡ statement_text names b ++ y →
    (a ≡ b) × (x ≡ y)

-- The quoted name of a table tells the table, and the quoted text of a constant the constant: values are compared as their texts are.
abbrev pub TableNamesTellTables : Type 0
TableNamesTellTables =
    (names : List (List ℕ)) (a b : Table) →
    AllPairs (λ m n. m ≢ n) names →
    IsPrintedTable names a →
    IsPrintedTable names b →
    table_name names a ≡ table_name names b →
    a ≡ b

abbrev pub ValuesTellConstants : Type 0
ValuesTellConstants =
    (names : List (List ℕ)) (m n : ℕ) →
    AllPairs (λ m n. m ≢ n) names →
    m < length names →
    n < length names →
    value_text names m ≡ value_text names n →
    m ≡ n

-- a fact of the table, of constants that are held
abbrev pub IsPrintedTerm : List (List ℕ) → Term → Type 0
IsPrintedTerm names (Constant c) = c < length names
IsPrintedTerm names (Variable v) = ⊥

pub record IsPrintedFact (names : List (List ℕ)) (table : Table) (a : Atom) : Type 0 where
  pub of_table : IsOfTable table a
  pub terms : All (IsPrintedTerm names) a.terms

-- So does the line that makes a table, and the line that puts facts there tells these facts, with what follows.
abbrev pub TableLinesTellTables : Type 0
TableLinesTellTables =
    (names : List (List ℕ)) (a b : Table) (x y : List ℕ) →
    AllPairs (λ m n. m ≢ n) names →
    IsPrintedTable names a →
    IsPrintedTable names b →
    table_line names a ++ x ≡ table_line names b ++ y →
    (a ≡ b) × (x ≡ y)

abbrev pub FactsLinesTellFacts : Type 0
FactsLinesTellFacts =
    (names : List (List ℕ)) (a b : Table) (facts others : List Atom) (x y : List ℕ) →
    AllPairs (λ m n. m ≢ n) names →
    IsPrintedTable names a →
    IsPrintedTable names b →
    All (IsPrintedFact names a) facts →
    All (IsPrintedFact names b) others →
    facts_line names a facts ++ x ≡ facts_line names b others ++ y →
    (a ≡ b) × (facts ≡ others) × (x ≡ y)
