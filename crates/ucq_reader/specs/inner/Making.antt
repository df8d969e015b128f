-- How an input is made, statement after statement.
use Rattle.std.specs.Prelude.{◌≡◌, ℕ, ◌≤◌, ◌+◌, ◌*◌, List, [], ◌∷◌, ◌++◌, map, length, codes, None}
use Rattle.std.specs.List.{filter_map, flat_map, range_with_len}
use Rattle.ucq_terms.specs.Syntax.{Atom}
use Rattle.ucq_reader.specs.Names.{number}
use Rattle.ucq_reader.specs.Meaning.{SymbolAtom, SymbolRule, SymbolQuery, SymbolAsked, Placed, texts_of, rule_of, fact_of, asked_of}
use Rattle.ucq_reader.specs.Input.{atom_value}
use Rattle.ucq_reader.specs.Gathered.{GatheredValue, IsGathered}
use Rattle.ucq_reader.specs.Made.{chain_rule, pair_fact, made_rules, made_query, made_facts, rule_texts, query_texts, fact_texts}

-- `X` has the number 0 and `Y` the number 1
abbrev pub place : List ℕ → ℕ
place text = number (codes "X" ∷ codes "Y" ∷ []) text

-- the atom of these texts, which it stays as more names come
pub record IsMadeAtom (names : List (List ℕ)) (s : SymbolAtom) (a : Atom) : Type 0 where
  pub value : (more : List (List ℕ)) → a ≡ atom_value (names ++ more) place s

-- and the atoms
pub record AreMadeAtoms (names : List (List ℕ)) (symbols : List SymbolAtom) (atoms : List Atom) : Type 0 where
  pub value : (more : List (List ℕ)) → atoms ≡ map (atom_value (names ++ more) place) symbols

-- a query without a label
abbrev pub unlabelled : SymbolQuery → SymbolAsked
unlabelled q = record { label = None; query = q }

-- the texts of its names
abbrev pub asked_texts : SymbolAsked → List (List ℕ)
asked_texts q = query_texts q.query

-- the texts of all names
abbrev pub all_texts : List SymbolRule → List SymbolAsked → List (List SymbolAtom) → List (List ℕ)
all_texts rules queries facts = flat_map rule_texts rules ++ (flat_map asked_texts queries ++ flat_map fact_texts facts)

-- this has been gathered of statements that are these rules, these queries and these facts, in this order
pub record IsMadeOf (rules : List SymbolRule) (queries : List SymbolAsked) (facts : List (List SymbolAtom)) (g : GatheredValue) : Type 0 where
  pub all : List Placed
  pub gathered : IsGathered all g
  pub texts : flat_map texts_of all ≡ all_texts rules queries facts
  pub rules_are : filter_map rule_of all ≡ rules
  pub queries_are : filter_map asked_of all ≡ queries
  pub facts_are : filter_map fact_of all ≡ facts

-- the first rules of the chain are made
pub record HasChain (i : ℕ) (g : GatheredValue) : Type 0 where
  pub made : IsMadeOf (map chain_rule (range_with_len 0 i)) [] [] g
  pub rules : length g.rules ≡ i
  pub facts : length g.facts ≡ 0
  pub asked : g.asked ≡ 0
  pub names : length g.names ≤ 2 * i

-- all rules are made
pub record HasRules (n : ℕ) (g : GatheredValue) : Type 0 where
  pub made : IsMadeOf (made_rules n) [] [] g
  pub rules : length g.rules ≡ n + 1
  pub facts : length g.facts ≡ 0
  pub asked : g.asked ≡ 0
  pub names : length g.names ≤ 2 * n + 3

-- and the query, and the first fact statements along the chain
pub record HasPairs (n i : ℕ) (g : GatheredValue) : Type 0 where
  pub made : IsMadeOf (made_rules n) (unlabelled made_query ∷ []) (map pair_fact (range_with_len 0 i)) g
  pub rules : length g.rules ≡ n + 1
  pub facts : length g.facts ≡ 2 * i
  pub names : length g.names ≤ 2 * n + 5 + 5 * i

-- and all fact statements
pub record HasFacts (n : ℕ) (g : GatheredValue) : Type 0 where
  pub made : IsMadeOf (made_rules n) (unlabelled made_query ∷ []) (made_facts n) g
  pub rules : length g.rules ≡ n + 1
  pub facts : length g.facts ≡ 2 * n + 3
