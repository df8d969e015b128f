-- What has been gathered of the statements that were read so far.
use Rattle.std.specs.Prelude.{◌≡◌, ℕ, ◌<◌, List, map, length, take, None}
use Rattle.std.specs.List.{AllZip, filter_map, flat_map, enumerate_from}
use Rattle.ucq_terms.specs.Syntax.{Atom, Rule}
use Rattle.ucq_terms.specs.declared.TheConstants.{QUERIES}
use Rattle.ucq_reader.specs.declared.input.Asked.{Asked}
use Rattle.ucq_reader.specs.Names.{Declared, in_order}
use Rattle.ucq_reader.specs.Statement.{Statement}
use Rattle.ucq_reader.specs.Meaning.{SymbolAtom, Placed, texts_of, rule_of, fact_of, asked_of, statement_fault}
use Rattle.ucq_reader.specs.Input.{atom_value, rule_value, IsAskedOf, StandsIn}

-- The names; the rules; the atoms of the facts, whose variables are below a number; the queries that are kept; and how
-- many were asked.
pub record GatheredValue : Type 0 where
  pub names : List (List ℕ)
  pub rules : List Rule
  pub facts : List Atom
  pub unknowns : ℕ
  pub queries : List Asked
  pub asked : ℕ

-- the atoms stand for those of the fact statements, of which no two share an unknown value
pub record AreGatheredFacts (names : List (List ℕ)) (meant : List (List SymbolAtom)) (unknowns : ℕ) (atoms : List Atom) : Type 0 where
  pub unknown : ℕ → List ℕ → ℕ
  pub apart : (i j : ℕ) (x y : List ℕ) → StandsIn meant i x → StandsIn meant j y → unknown i x ≡ unknown j y → (i ≡ j) × (x ≡ y)
  pub below : (i : ℕ) (x : List ℕ) → StandsIn meant i x → unknown i x < unknowns
  pub facts : atoms ≡ flat_map (λ (f : ℕ × List SymbolAtom). map (atom_value names (unknown f.0)) f.1) (enumerate_from 0 meant)

-- This has been gathered of these statements. Queries past the limit are counted and not kept.
pub record IsGathered (all : List Placed) (g : GatheredValue) : Type 0 where
  pub names : g.names ≡ in_order (flat_map texts_of all)
  pub rules : g.rules ≡ map (rule_value g.names) (filter_map rule_of all)
  pub facts : AreGatheredFacts g.names (filter_map fact_of all) g.unknowns g.facts
  pub queries : AllZip (IsAskedOf g.names) (take QUERIES (filter_map asked_of all)) g.queries
  pub asked : g.asked ≡ length (filter_map asked_of all)

-- a statement that follows these prefix lines has no refusal of its own, wherever it stands
abbrev pub IsAccepted : Declared → Statement → Type 0
IsAccepted ds statement =
    (file number : ℕ) (starts : List ℕ) →
    statement_fault (record { file = file; number = number; starts = starts; before = ds; statement = statement }) ≡ None
