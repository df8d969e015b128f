-- Aggregates of single-piece unifiers, and the rewritings that they make. (After König, Leclère, Mugnier and Thomazo 2015;
-- the names of classes, and the levels, are this project's own.)
use Rattle.std.specs.Prelude.{◌≡◌, ℕ, zero, suc, ◌<◌, List, [], ◌++◌, map, length, ◌↔◌, All, AllPairs, Contains, flat_map, slice_index_or}
use Rattle.std.specs.List.{enumerate_from}
use Rattle.ucq_terms.specs.declared.Term.{Term}
use Rattle.ucq_terms.specs.declared.Term.TheVariants.{Constant}
use Rattle.ucq_terms.specs.Syntax.{Atom, Rule, Query, Problem, HasEachOnce, IsSameSet}
use Rattle.ucq_terms.specs.Homomorphism.{IsCoreOf}
use Rattle.ucq_terms.specs.Unifier.{Node, constant, query_node, copy_node, places, unmatched, links, AreJoined, HasNoClash, IsSinglePiece}

-- a single-piece unifier with the rule of that number
pub record Member : Type 0 where
  pub rule : ℕ
  pub pairs : List (ℕ × ℕ)

-- the rule of that number
abbrev pub rule_at : List Rule → ℕ → Rule
rule_at rules number = slice_index_or rules number (record { heads = []; body = [] })

-- Each member has a copy of its rule, by the member's place in the list, and these are the links of all members.
abbrev pub all_links : Query → List Rule → List Member → List (Node × Node)
all_links q rules members = flat_map (λ (p : ℕ × Member). links q p.0 (rule_at rules p.1.rule) p.1.pairs) (enumerate_from 0 members)

-- the pairs of all members
abbrev pub all_pairs : List Member → List (ℕ × ℕ)
all_pairs members = flat_map (λ (m : Member). m.pairs) members

-- no atom of the query belongs to both
abbrev pub AreApart : Member → Member → Type 0
AreApart a b = (place : ℕ) → Contains (places a.pairs) place → Contains (places b.pairs) place → ⊥

-- its rule is there, and it is a single piece of the query with it
pub record IsMember (q : Query) (rules : List Rule) (m : Member) : Type 0 where
  pub rule : m.rule < length rules
  pub single : IsSinglePiece q (rule_at rules m.rule) m.pairs

-- Single pieces over pairwise disjoint sets of atoms, of whose joined classes none has two constants.
pub record IsAggregate (q : Query) (rules : List Rule) (members : List Member) : Type 0 where
  pub nonempty : 0 < length members
  pub each : All (IsMember q rules) members
  pub apart : AllPairs AreApart members
  pub no_clash : HasNoClash (all_links q rules members)

-- A name for each class, which no other class has. A constant's class is named by it.
pub record NamesClasses (links : List (Node × Node)) (name : Node → Term) : Type 0 where
  pub classes : (x y : Node) → (name x ≡ name y) ↔ AreJoined links x y
  pub constants : (c : ℕ) → name (constant c) ≡ Constant c

-- the atoms, with each term by its name
abbrev pub atoms_named : (Term → Term) → List Atom → List Atom
atoms_named f atoms = map (λ (a : Atom). record { name = a.name; terms = map f a.terms }) atoms

-- the bodies of all copies, each in its own variables
abbrev pub bodies : (Node → Term) → List Rule → List Member → List Atom
bodies name rules members = flat_map (λ (p : ℕ × Member). atoms_named (λ t. name (copy_node p.0 t)) (rule_at rules p.1.rule).body) (enumerate_from 0 members)

-- The query becomes the bodies of all copies and its unmatched atoms.
pub record Rewrites (q : Query) (rules : List Rule) (members : List Member) (result : Query) : Type 0 where
  pub aggregate : IsAggregate q rules members
  pub name : Node → Term
  pub names : NamesClasses (all_links q rules members) name
  pub answers : result.answers ≡ map (λ t. name (query_node t)) q.answers
  pub atoms : IsSameSet result.atoms (bodies name rules members ++ atoms_named (λ t. name (query_node t)) (unmatched q (all_pairs members)))

-- the set has this number of different atoms
pub record HasWidth (atoms : List Atom) (width : ℕ) : Type 0 where
  pub different : List Atom
  pub once : HasEachOnce different
  pub same : IsSameSet different atoms
  pub count : width ≡ length different

-- the rule numbers of the members are all this one
abbrev pub UsesOnly : ℕ → List Member → Type 0
UsesOnly rule members = All (λ (m : Member). m.rule ≡ rule) members

-- some aggregate, each of whose members is with the rule of this number, rewrites the query into the result
pub record IsOneStepWith (rules : List Rule) (rule : ℕ) (q result : Query) : Type 0 where
  pub members : List Member
  pub uses_only : UsesOnly rule members
  pub rewrites : Rewrites q rules members result

-- the same with some rule
pub record IsOneStep (rules : List Rule) (q result : Query) : Type 0 where
  pub rule : ℕ
  pub step : IsOneStepWith rules rule q result

-- Level 0 has the cores of the problem's query, and each further level the cores of the one-step rewritings of the level
-- before. No query of a level has an atom twice, since matchings go by places.
abbrev pub IsInLevel : Problem → ℕ → Query → Type 0
IsInLevel problem zero core = HasEachOnce core.atoms × IsCoreOf problem.query core
IsInLevel problem (suc level) core = HasEachOnce core.atoms × ((q r : Query) × IsInLevel problem level q × IsOneStep problem.rules q r × IsCoreOf r core)
