-- The input that files stand for.
use Rattle.std.specs.Prelude.{◌≡◌, ℕ, ◌+◌, List, [], ◌∷◌, ◌++◌, map, slice_index_or, slice_range, Option, Some, None, Result, Ok, Err, ◌≢◌, AllPairs, Contains}
use Rattle.std.specs.List.{AllZip, flat_map, filter_map, enumerate_from}
use Rattle.ucq_terms.specs.declared.Term.{Term}
use Rattle.ucq_terms.specs.declared.Term.TheVariants.{Constant, Variable}
use Rattle.ucq_terms.specs.Syntax.{Atom, Rule, Query, IsSameSet}
use Rattle.ucq_lexer.specs.declared.Token.{Token}
use Rattle.ucq_lexer.specs.Tokens.{Spells, IsBadByte}
use Rattle.ucq_reader.specs.declared.input.Asked.{Asked}
use Rattle.ucq_reader.specs.declared.ReadFault.{ReadFault}
use Rattle.ucq_reader.specs.declared.ReadFault.TheVariants.{BadByte, BadStatement, OpenEnd}
use Rattle.ucq_reader.specs.Statement.{Word, word_of}
use Rattle.ucq_reader.specs.File.{AreStatements, IsBadStatement, IsOpenEnd}
use Rattle.ucq_reader.specs.Names.{in_order, number}
use Rattle.ucq_reader.specs.Meaning.{Symbol, constant, variable, SymbolAtom, SymbolRule, SymbolQuery, SymbolAsked, Meant, FileRead, malformed, parsed, file_fault, meaning}

-- ---- reading a file

-- the words of the tokens
abbrev pub words : List ℕ → List Token → List Word
words text tokens = map (λ (t : Token). word_of t.kind (slice_range text t.start t.end)) tokens

-- the places of the tokens
abbrev pub starts : List Token → List ℕ
starts tokens = map (λ (t : Token). t.start) tokens

-- the file of that number is read so: it is a list of statements, or it has the first of the first three refusals
abbrev pub IsRead : ℕ → List ℕ → FileRead → Type 0
IsRead file text (parsed statements places) = (tokens : List Token) × Spells text tokens × AreStatements (words text tokens) statements × (places ≡ starts tokens)
IsRead file text (malformed (BadByte f at)) = (f ≡ file) × IsBadByte text at
IsRead file text (malformed (BadStatement f number at)) = (f ≡ file) × (tokens : List Token) × (place : ℕ) × Spells text tokens × IsBadStatement (words text tokens) number place × (at ≡ slice_index_or (starts tokens) place 0)
IsRead file text (malformed (OpenEnd f at)) = (f ≡ file) × (tokens : List Token) × (place : ℕ) × Spells text tokens × IsOpenEnd (words text tokens) place × (at ≡ slice_index_or (starts tokens) place 0)
IsRead file text (malformed _) = ⊥

-- after a refusal no file is read
abbrev pub IsGoneOn : Option ReadFault → List FileRead → Type 0 → Type 0
IsGoneOn (Some fault) later goes_on = later ≡ []
IsGoneOn None later goes_on = goes_on

-- files are read in turn, up to the first that has a refusal
abbrev pub AreRead : ℕ → List (List ℕ) → List FileRead → Type 0
AreRead file [] [] = Unit {0}
AreRead file (text ∷ texts) (f ∷ fs) = IsRead file text f × IsGoneOn (file_fault file f) fs (AreRead (file + 1) texts fs)
AreRead file _ _ = ⊥

-- ---- numbers for texts

-- the text of a variable
abbrev pub variable_text : Symbol → Option (List ℕ)
variable_text (constant text) = None
variable_text (variable text) = Some text

-- the variables of terms, each once, where it first stands
abbrev pub variables_in : List Symbol → List (List ℕ)
variables_in symbols = in_order (filter_map variable_text symbols)

-- the terms of the atoms, as often as they stand there
abbrev pub terms_in : List SymbolAtom → List Symbol
terms_in atoms = flat_map (λ (a : SymbolAtom). a.terms) atoms

-- a term by numbers: of its text among the names, or of its variable
abbrev pub term_value : List (List ℕ) → (List ℕ → ℕ) → Symbol → Term
term_value names place (constant text) = Constant (number names text)
term_value names place (variable text) = Variable (place text)

-- an atom by numbers
abbrev pub atom_value : List (List ℕ) → (List ℕ → ℕ) → SymbolAtom → Atom
atom_value names place a = record { name = number names a.name; terms = map (term_value names place) a.terms }

-- a rule's variables are numbered by first occurrence, those of the head first
abbrev pub rule_value : List (List ℕ) → SymbolRule → Rule
rule_value names r =
    let place = number (variables_in (terms_in r.heads ++ terms_in r.body)) in
    record { heads = map (atom_value names place) r.heads; body = map (atom_value names place) r.body }

-- A query's variables are numbered by first occurrence, answers first. Equal atoms count once.
pub record IsQueryOf (names : List (List ℕ)) (q : SymbolQuery) (query : Query) : Type 0 where
  pub answers : query.answers ≡ map (term_value names (number (variables_in (q.answers ++ terms_in q.atoms)))) q.answers
  pub atoms : IsSameSet query.atoms (map (atom_value names (number (variables_in (q.answers ++ terms_in q.atoms)))) q.atoms)
  pub once : AllPairs (λ (a b : Atom). a ≢ b) query.atoms

-- a query that is asked has the label of the text
pub record IsAskedOf (names : List (List ℕ)) (meant : SymbolAsked) (asked : Asked) : Type 0 where
  pub label : asked.label ≡ meant.label
  pub query : IsQueryOf names meant.query asked.query

-- what the reader gives, as contracts see it
pub record InputValue : Type 0 where
  pub names : List (List ℕ)
  pub rules : List Rule
  pub queries : List Asked
  pub facts : List Atom

-- the variable stands in that fact statement
abbrev pub StandsIn : List (List SymbolAtom) → ℕ → List ℕ → Type 0
StandsIn facts i text = Contains (terms_in (slice_index_or facts i [])) (variable text)

-- The input has the numbers of these texts. Each variable of a fact statement has a number that no other variable of
-- it and no other fact statement has.
pub record HasNumbersOf (meant : Meant) (input : InputValue) : Type 0 where
  pub names : input.names ≡ in_order meant.texts
  pub rules : input.rules ≡ map (rule_value input.names) meant.rules
  pub queries : AllZip (IsAskedOf input.names) meant.queries input.queries
  pub unknown : ℕ → List ℕ → ℕ
  pub apart : (i j : ℕ) (x y : List ℕ) → StandsIn meant.facts i x → StandsIn meant.facts j y → unknown i x ≡ unknown j y → (i ≡ j) × (x ≡ y)
  pub facts : input.facts ≡ flat_map (λ (f : ℕ × List SymbolAtom). map (atom_value input.names (unknown f.0)) f.1) (enumerate_from 0 meant.facts)

-- ---- what files stand for

-- the files, as they are read, have this outcome
abbrev pub IsMeaning : List (List ℕ) → Result Meant ReadFault → Type 0
IsMeaning files outcome = (reads : List FileRead) × AreRead 0 files reads × (outcome ≡ meaning reads)

-- the files stand for the input
abbrev pub IsInput : List (List ℕ) → InputValue → Type 0
IsInput files input = (meant : Meant) × IsMeaning files (Ok meant) × HasNumbersOf meant input

-- the files are refused so
abbrev pub IsRefused : List (List ℕ) → ReadFault → Type 0
IsRefused files fault = IsMeaning files (Err fault)
