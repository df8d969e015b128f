-- What is built of a statement's symbols, with numbers for their texts.
use Rattle.std.specs.Prelude.{◌≡◌, ◌<◌, ◌≤◌, ◌+◌, ◌-◌, ◌^◌, ℕ, List, [], ◌∷◌, ◌++◌, map, length, Option, Some, None, fold, All, Contains}
use Rattle.std.specs.List.{filter_map, flat_map}
use Rattle.std.specs.declared.vec.Vec.{Vec}
use Rattle.std.specs.declared.alloc.Global.{Global}
use Rattle.ucq_lexer.specs.declared.Token.{Token}
use Rattle.ucq_terms.specs.declared.Term.{Term}
use Rattle.ucq_terms.specs.Syntax.{Atom}
use Rattle.ucq_terms.specs.declared.TheConstants.{QUERIES}
use Rattle.ucq_terms.specs.Names.{with_name}
use Rattle.ucq_reader.specs.declared.building.Numbers.{Numbers}
use Rattle.ucq_reader.specs.declared.input.Asked.{Asked}
use Rattle.ucq_reader.specs.declared.names.Declaration.{Declaration}
use Rattle.ucq_reader.specs.declared.syntax.AtomForm.{AtomForm}
use Rattle.ucq_reader.specs.declared.syntax.Several.{Several as SeveralForm}
use Rattle.ucq_reader.specs.Names.{number}
use Rattle.ucq_reader.specs.Meaning.{Symbol, constant, variable, SymbolAtom, SymbolRule, SymbolQuery, SymbolAsked, symbol, symbol_atom, symbol_atoms, answer_terms}
use Rattle.ucq_reader.specs.Input.{variable_text, variables_in, terms_in, term_value, atom_value, rule_value, IsAskedOf}
use Rattle.ucq_reader.specs.View.{term_view, atom_view, atoms_view, answers_view, label_view, declared_view}
use Rattle.ucq_reader.specs.Gathered.{GatheredValue}

abbrev pub constant_text : Symbol → Option (List ℕ)
constant_text (constant text) = Some text
constant_text (variable text) = None

-- the texts of constants, as often as they stand there
abbrev pub constants_of : List Symbol → List (List ℕ)
constants_of symbols = filter_map constant_text symbols

abbrev pub variables_of : List Symbol → List (List ℕ)
variables_of symbols = filter_map variable_text symbols

-- an atom's name, which is taken for a constant, and its terms
abbrev pub atom_symbols : SymbolAtom → List Symbol
atom_symbols a = constant a.name ∷ a.terms

abbrev pub symbols_in : List SymbolAtom → List Symbol
symbols_in atoms = flat_map atom_symbols atoms

abbrev pub rule_symbols : SymbolRule → List Symbol
rule_symbols r = symbols_in r.heads ++ symbols_in r.body

abbrev pub query_symbols : SymbolQuery → List Symbol
query_symbols q = q.answers ++ symbols_in q.atoms

-- each variable of the answers stands in an atom
pub record IsSafeQuery (q : SymbolQuery) : Type 0 where
  pub stands : (text : List ℕ) → Contains q.answers (variable text) → Contains (terms_in q.atoms) (variable text)

-- the names after these texts
abbrev pub with_names : List (List ℕ) → List (List ℕ) → List (List ℕ)
with_names names texts = fold with_name names texts

-- what a token of a file stands for
abbrev pub token_symbol : List ℕ → List Declaration → Token → Symbol
token_symbol text ds t = symbol (declared_view text ds) (term_view text t)

-- and an atom
abbrev pub form_atom : List ℕ → List Declaration → AtomForm → SymbolAtom
form_atom text ds a = symbol_atom (declared_view text ds) (atom_view text a)

-- a rule
abbrev pub written_rule : List ℕ → List Declaration → SeveralForm AtomForm → SeveralForm AtomForm → SymbolRule
written_rule text ds heads body = record { heads = symbol_atoms (declared_view text ds) (atoms_view text heads); body = symbol_atoms (declared_view text ds) (atoms_view text body) }

-- and a query
abbrev pub written_query : List ℕ → List Declaration → Option (Vec Token Global) → SeveralForm AtomForm → SymbolQuery
written_query text ds answers body = record {
  answers = map (symbol (declared_view text ds)) (answer_terms (answers_view text answers));
  atoms = symbol_atoms (declared_view text ds) (atoms_view text body);
}

-- with its label
abbrev pub written_asked : List ℕ → List Declaration → Option Token → Option (Vec Token Global) → SeveralForm AtomForm → SymbolAsked
written_asked text ds label answers body = record { label = label_view text label; query = written_query text ds answers body }

-- The atom has at most 16 terms; and so has each of these.
abbrev pub HasFewTerms : AtomForm → Type 0
HasFewTerms a = length a.terms.others.items < 16

abbrev pub HaveFewTerms : SeveralForm AtomForm → Type 0
HaveFewTerms atoms = HasFewTerms atoms.first × All HasFewTerms atoms.others.items

-- ---- numbers for the texts of one statement

-- so many further texts get numbers that a word holds
pub record HasRoom (n : Numbers) (count : ℕ) : Type 0 where
  pub names : length n.names + count < 2 ^ 32 - 1
  pub variables : n.first + length n.variables + count < 2 ^ 32 - 1

-- the texts of these symbols got numbers
pub record HasNumbered (old new : Numbers) (symbols : List Symbol) : Type 0 where
  pub names : new.names ≡ with_names old.names (constants_of symbols)
  pub variables : new.variables ≡ with_names old.variables (variables_of symbols)
  pub first : new.first ≡ old.first

-- the number of a variable
abbrev pub place_in : ℕ → List (List ℕ) → List ℕ → ℕ
place_in first variables text = first + number variables text

-- the number of this name, which it keeps as more names come
pub record IsNumberOf (names : List (List ℕ)) (text : List ℕ) (n : ℕ) : Type 0 where
  pub value : (more : List (List ℕ)) → n ≡ number (names ++ more) text

-- the term of this symbol, which it stays as more texts come
pub record IsTermOf (n : Numbers) (s : Symbol) (t : Term) : Type 0 where
  pub value : (names variables : List (List ℕ)) → t ≡ term_value (n.names ++ names) (place_in n.first (n.variables ++ variables)) s

-- the terms of these symbols are added
pub record AddsTerms (n : Numbers) (symbols : List Symbol) (old new : List Term) : Type 0 where
  pub value : (names variables : List (List ℕ)) → new ≡ old ++ map (term_value (n.names ++ names) (place_in n.first (n.variables ++ variables))) symbols

pub record IsAtomOf (n : Numbers) (s : SymbolAtom) (a : Atom) : Type 0 where
  pub value : (names variables : List (List ℕ)) → a ≡ atom_value (n.names ++ names) (place_in n.first (n.variables ++ variables)) s

-- the atoms of these symbols are added
pub record AddsAtoms (n : Numbers) (symbols : List SymbolAtom) (old new : List Atom) : Type 0 where
  pub value : (names variables : List (List ℕ)) → new ≡ old ++ map (atom_value (n.names ++ names) (place_in n.first (n.variables ++ variables))) symbols

-- ---- one more statement

-- a fact statement's atoms are added, with unknown values of their own
pub record AddsFact (f : List SymbolAtom) (old new : GatheredValue) : Type 0 where
  pub names : new.names ≡ with_names old.names (constants_of (symbols_in f))
  pub rules : new.rules ≡ old.rules
  pub facts : new.facts ≡ old.facts ++ map (atom_value new.names (place_in old.unknowns (variables_in (terms_in f)))) f
  pub unknowns : new.unknowns ≡ old.unknowns + length (variables_in (terms_in f))
  pub queries : new.queries ≡ old.queries
  pub asked : new.asked ≡ old.asked

-- a rule is added
pub record AddsRule (r : SymbolRule) (old new : GatheredValue) : Type 0 where
  pub names : new.names ≡ with_names old.names (constants_of (rule_symbols r))
  pub rules : new.rules ≡ old.rules ++ rule_value new.names r ∷ []
  pub facts : new.facts ≡ old.facts
  pub unknowns : new.unknowns ≡ old.unknowns
  pub queries : new.queries ≡ old.queries
  pub asked : new.asked ≡ old.asked

-- a query is asked, which is kept while the limit is not reached
pub record AddsQuery (q : SymbolAsked) (old new : GatheredValue) : Type 0 where
  pub names : new.names ≡ with_names old.names (constants_of (query_symbols q.query))
  pub rules : new.rules ≡ old.rules
  pub facts : new.facts ≡ old.facts
  pub unknowns : new.unknowns ≡ old.unknowns
  pub kept : old.asked < QUERIES → (held : Asked) × (new.queries ≡ old.queries ++ held ∷ []) × IsAskedOf new.names q held
  pub passed : QUERIES ≤ old.asked → new.queries ≡ old.queries
  pub asked : new.asked ≡ old.asked + 1
