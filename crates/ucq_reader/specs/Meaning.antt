-- What statements stand for, in texts, and the first refusal.
use Rattle.std.specs.Prelude.{ℕ, ◌+◌, Bool, false, not, nat_lt, List, [], ◌∷◌, ◌++◌, map, length, take, drop, zip, Option, Some, None, Result, Ok, Err}
use Rattle.ucq_terms.specs.declared.TheConstants.{FACTS, QUERIES, RULES}
use Rattle.std.specs.List.{list_any, find, filter_map, flat_map, enumerate_from}
use Rattle.std.specs.Str.{bytes_eq}
use Rattle.ucq_reader.specs.declared.ReadFault.{ReadFault}
use Rattle.ucq_reader.specs.declared.ReadFault.TheVariants.{UnknownPrefix, NotBuilt, Limit, Unsafe, TooMany, NoQuery}
use Rattle.ucq_reader.specs.declared.NotBuiltKind.TheVariants as kinds
use Rattle.ucq_reader.specs.declared.Which.{Which}
use Rattle.ucq_reader.specs.declared.Which.TheVariants as limits
use Rattle.ucq_reader.specs.declared.Whole.TheVariants as wholes
use Rattle.ucq_reader.specs.Statement.{Word, Several, TermSyntax, a_variable, a_name, an_integer, a_text, AtomSyntax, a_fact, a_rule, a_query, a_constraint, Statement, a_base, a_top, a_sentence, spelling}
use Rattle.ucq_reader.specs.Names.{Declared, declare, name_text, word_text, is_undeclared}

-- a term by its text: a constant, or a variable of its statement
pub data Symbol : Type 0 where
  constant : List ℕ → Symbol
  variable : List ℕ → Symbol

pub record SymbolAtom : Type 0 where
  pub name : List ℕ
  pub terms : List Symbol

pub record SymbolRule : Type 0 where
  pub heads : List SymbolAtom
  pub body : List SymbolAtom

pub record SymbolQuery : Type 0 where
  pub answers : List Symbol
  pub atoms : List SymbolAtom

-- a query, and the label that stands before it
pub record SymbolAsked : Type 0 where
  pub label : Option (List ℕ)
  pub query : SymbolQuery

-- What files stand for: the texts of all names, in order of their tokens and as often as they stand there, the rules,
-- the queries, and the atoms of each fact statement.
pub record Meant : Type 0 where
  pub texts : List (List ℕ)
  pub rules : List SymbolRule
  pub queries : List SymbolAsked
  pub facts : List (List SymbolAtom)

-- A statement in its place: its number in its file, the places of its tokens, and the prefixes declared before it.
pub record Placed : Type 0 where
  pub file : ℕ
  pub number : ℕ
  pub starts : List ℕ
  pub before : Declared
  pub statement : Statement

-- ---- symbols

-- all of them
abbrev pub listed : {A : Type 0} → Several A → List A
listed xs = xs.first ∷ xs.others

-- a term by its text, where these prefixes are declared
abbrev pub symbol : Declared → TermSyntax → Symbol
symbol ds (a_variable bytes) = variable bytes
symbol ds (a_name name) = constant (name_text ds name)
symbol ds (an_integer bytes) = constant bytes
symbol ds (a_text bytes) = constant bytes

-- an atom by texts
abbrev pub symbol_atom : Declared → AtomSyntax → SymbolAtom
symbol_atom ds a = record { name = name_text ds a.name; terms = map (symbol ds) (listed a.terms) }

-- these atoms by texts
abbrev pub symbol_atoms : Declared → Several AtomSyntax → List SymbolAtom
symbol_atoms ds atoms = map (symbol_atom ds) (listed atoms)

-- no answers where none are written
abbrev pub answer_terms : Option (List TermSyntax) → List TermSyntax
answer_terms None = []
answer_terms (Some terms) = terms

-- the rule that the statement is
abbrev pub rule_of : Placed → Option SymbolRule
rule_of p = go p.before p.statement
  where
    go : Declared → Statement → Option SymbolRule
    go ds (a_sentence l (a_rule head body)) = Some (record { heads = symbol_atoms ds head; body = symbol_atoms ds body })
    go ds _ = None

-- the query that the statement is, with its label
abbrev pub asked_of : Placed → Option SymbolAsked
asked_of p = go p.before p.statement
  where
    go : Declared → Statement → Option SymbolAsked
    go ds (a_sentence l (a_query answers body)) = Some (record { label = l; query = record { answers = map (symbol ds) (answer_terms answers); atoms = symbol_atoms ds body } })
    go ds _ = None

-- the atoms of the fact statement that it is
abbrev pub fact_of : Placed → Option (List SymbolAtom)
fact_of p = go p.before p.statement
  where
    go : Declared → Statement → Option (List SymbolAtom)
    go ds (a_sentence l (a_fact atoms)) = Some (symbol_atoms ds atoms)
    go ds _ = None

-- the texts of a sentence's names, in order of their tokens
abbrev pub texts_of : Placed → List (List ℕ)
texts_of p = go p.before p.statement
  where
    go : Declared → Statement → List (List ℕ)
    go ds (a_sentence l sentence) = filter_map (word_text ds) (spelling (a_sentence l sentence))
    go ds _ = []

-- ---- refusals of a statement, in their order

-- the first that holds
abbrev pub first_of : {A : Type 0} → List (Option A) → Option A
first_of [] = None
first_of (None ∷ rest) = first_of rest
first_of (Some a ∷ rest) = Some a

-- what f makes of the value, where there is one
abbrev pub mapped : {A B : Type 0} → (A → B) → Option A → Option B
mapped f None = None
mapped f (Some a) = Some (f a)

-- of these words at these places, the first Prefixed token whose prefix is not declared
abbrev pub first_unknown : Declared → ℕ → List Word → List ℕ → Option ReadFault
first_unknown ds file ws places = mapped (λ (w : Word × ℕ). UnknownPrefix file w.1) (find (λ (w : Word × ℕ). is_undeclared ds w.0) (zip ws places))

-- the first Prefixed token of the statement whose prefix is not declared
abbrev pub unknown_prefix : Placed → Option ReadFault
unknown_prefix p = first_unknown p.before p.file (spelling p.statement) p.starts

-- a form that is not built
abbrev pub not_built : Placed → Option ReadFault
not_built p = go p.statement
  where
    go : Statement → Option ReadFault
    go (a_base bytes dotted) = Some (NotBuilt p.file p.number kinds.Base)
    go (a_top name dotted) = Some (NotBuilt p.file p.number kinds.Top)
    go (a_sentence l (a_constraint body)) = Some (NotBuilt p.file p.number kinds.Constraint)
    go _ = None

-- the atoms as they are written, those of a head first
abbrev pub written_atoms : Statement → List AtomSyntax
written_atoms (a_sentence l (a_fact atoms)) = listed atoms
written_atoms (a_sentence l (a_rule head body)) = listed head ++ listed body
written_atoms (a_sentence l (a_query answers body)) = listed body
written_atoms (a_sentence l (a_constraint body)) = listed body
written_atoms _ = []

-- the answers as they are written
abbrev pub written_answers : Statement → List TermSyntax
written_answers (a_sentence l (a_query answers body)) = answer_terms answers
written_answers _ = []

-- the lists of atoms that have a limit
abbrev pub limited_atoms : Statement → List (List AtomSyntax)
limited_atoms (a_sentence l (a_rule head body)) = listed head ∷ listed body ∷ []
limited_atoms (a_sentence l (a_query answers body)) = listed body ∷ []
limited_atoms (a_sentence l (a_constraint body)) = listed body ∷ []
limited_atoms _ = []

-- the first number that passes the limit
abbrev pub first_above : ℕ → List ℕ → Option ℕ
first_above limit counts = find (λ n. nat_lt limit n) counts

-- how many terms it has
abbrev pub arity : AtomSyntax → ℕ
arity a = length (listed a.terms)

-- the first limit that is passed, and the number that passes it
abbrev pub passed_limit : Placed → Option (Which × ℕ)
passed_limit p = first_of (
    mapped (λ n. (limits.Name, n)) (first_above 1024 (map length (texts_of p)))
    ∷ mapped (λ n. (limits.Arity, n)) (first_above 16 (map arity (written_atoms p.statement)))
    ∷ mapped (λ n. (limits.Answers, n)) (first_above 16 (length (written_answers p.statement) ∷ []))
    ∷ mapped (λ n. (limits.Atoms, n)) (first_above 32 (map length (limited_atoms p.statement)))
    ∷ [])

-- the first limit that is passed, as a refusal
abbrev pub limit : Placed → Option ReadFault
limit p = mapped (λ (passed : Which × ℕ). Limit p.file p.number passed.0 passed.1) (passed_limit p)

-- the term is that variable
abbrev pub is_variable : List ℕ → TermSyntax → Bool
is_variable bytes (a_variable other) = bytes_eq bytes other
is_variable bytes _ = false

-- the atom has that variable
abbrev pub has_variable : List ℕ → AtomSyntax → Bool
has_variable bytes a = list_any (is_variable bytes) (listed a.terms)

-- a variable that no atom has
abbrev pub is_loose : List AtomSyntax → TermSyntax → Bool
is_loose atoms (a_variable bytes) = not (list_any (has_variable bytes) atoms)
is_loose atoms _ = false

-- the place of the first answer that is a variable of no atom
abbrev pub first_loose : List AtomSyntax → List TermSyntax → Option ℕ
first_loose atoms answers = mapped (λ (a : ℕ × TermSyntax). a.0) (find (λ (a : ℕ × TermSyntax). is_loose atoms a.1) (enumerate_from 0 answers))

-- the first answer that is a variable of no atom, as a refusal
abbrev pub unsafe_answer : Placed → Option ReadFault
unsafe_answer p = mapped (Unsafe p.file p.number) (first_loose (written_atoms p.statement) (written_answers p.statement))

-- the first refusal of the statement
abbrev pub statement_fault : Placed → Option ReadFault
statement_fault p = first_of (unknown_prefix p ∷ not_built p ∷ limit p ∷ unsafe_answer p ∷ [])

-- ---- files

-- a file that is no list of statements, with its refusal; or its statements, and the places of its tokens
pub data FileRead : Type 0 where
  malformed : ReadFault → FileRead
  parsed : List Statement → List ℕ → FileRead

-- the statements of a file in their places, from this number on
abbrev pub placed_from : ℕ → ℕ → List ℕ → Declared → List Statement → List Placed
placed_from file number starts ds [] = []
placed_from file number starts ds (s ∷ ss) =
    record { file = file; number = number; starts = take (length (spelling s)) starts; before = ds; statement = s }
    ∷ placed_from file (number + 1) (drop (length (spelling s)) starts) (declare ds s) ss

-- the statements of all files, in their places
abbrev pub placed : ℕ → List FileRead → List Placed
placed file [] = []
placed file (malformed fault ∷ rest) = placed (file + 1) rest
placed file (parsed statements starts ∷ rest) = placed_from file 0 starts [] statements ++ placed (file + 1) rest

-- the first refusal of a file: that it is no list of statements, or that of a statement
abbrev pub file_fault : ℕ → FileRead → Option ReadFault
file_fault file (malformed fault) = Some fault
file_fault file (parsed statements starts) = first_of (map statement_fault (placed_from file 0 starts [] statements))

-- the first refusal of the files, from this number on
abbrev pub files_fault : ℕ → List FileRead → Option ReadFault
files_fault file [] = None
files_fault file (f ∷ rest) = first_of (file_fault file f ∷ files_fault (file + 1) rest ∷ [])

-- too many rules, or else too many facts, or else too many queries
abbrev pub count_fault : List Placed → Option ReadFault
count_fault all = first_of (
    mapped (TooMany wholes.Rules) (first_above RULES (length (filter_map rule_of all) ∷ []))
    ∷ mapped (TooMany wholes.Facts) (first_above FACTS (length (flat_map (λ atoms. atoms) (filter_map fact_of all)) ∷ []))
    ∷ mapped (TooMany wholes.Queries) (first_above QUERIES (length (filter_map asked_of all) ∷ []))
    ∷ [])

-- what the statements stand for, once none of them is refused, where these are their queries
abbrev pub with_queries : List Placed → List SymbolAsked → Result Meant ReadFault
with_queries all [] = Err NoQuery
with_queries all (q ∷ more) = Ok (record { texts = flat_map texts_of all; rules = filter_map rule_of all; queries = q ∷ more; facts = filter_map fact_of all })

-- the refusal, or where there is none, this
abbrev pub unless : Option ReadFault → Result Meant ReadFault → Result Meant ReadFault
unless (Some fault) outcome = Err fault
unless None outcome = outcome

-- what the statements stand for, once none of them is refused
abbrev pub meant : List Placed → Result Meant ReadFault
meant all = unless (count_fault all) (with_queries all (filter_map asked_of all))

-- what files stand for, or their first refusal
abbrev pub meaning : List FileRead → Result Meant ReadFault
meaning files = unless (files_fault 0 files) (meant (placed 0 files))
