-- Piece-unifiers of a query with a rule. (After König, Leclère, Mugnier and Thomazo 2015; that answer variables are
-- separating, and that a single piece is a unifier that can't be split, is this project's own.)
use Rattle.std.specs.Prelude.{◌≡◌, ℕ, ◌<◌, Bool, not, List, [], map, length, ◌⊎◌, Contains, filter, flat_map, zip, slice_index_or}
use Rattle.std.specs.List.{list_any, enumerate_from}
use Rattle.std.specs.List.Sorted.{IsStrictlyIncreasing}
use Rattle.std.specs.Prelude.{nat_eq}
use Rattle.ucq_terms.specs.declared.Term.{Term}
use Rattle.ucq_terms.specs.declared.Term.TheVariants.{Constant, Variable}
use Rattle.ucq_terms.specs.Syntax.{Atom, Rule, Query, OccursIn}
use Rattle.ucq_terms.specs.Chase.{IsExistential}

-- A term of a query and of copies of rules, whose variables are taken apart. Constants are shared.
pub data Node : Type 0 where
  constant : ℕ → Node
  of_query : ℕ → Node
  of_copy : ℕ → ℕ → Node

-- a term of the query as a node, and one of a copy of a rule
abbrev pub query_node : Term → Node
query_node (Constant c) = constant c
query_node (Variable v) = of_query v

abbrev pub copy_node : ℕ → Term → Node
copy_node copy (Constant c) = constant c
copy_node copy (Variable v) = of_copy copy v

-- the atom at a place
abbrev pub atom_at : List Atom → ℕ → Atom
atom_at atoms place = slice_index_or atoms place (record { name = 0; terms = [] })

-- A map from some of the query's atoms to atoms of a head is a list of pairs: the place of an atom of the query, and
-- the place of the atom of the head. These are the places of the query's atoms.
abbrev pub places : List (ℕ × ℕ) → List ℕ
places pairs = map (λ p. p.0) pairs

-- the place is among them
abbrev pub is_place : List (ℕ × ℕ) → ℕ → Bool
is_place pairs place = list_any (nat_eq place) (places pairs)

-- the atoms of the query that the map leaves out
abbrev pub unmatched : Query → List (ℕ × ℕ) → List Atom
unmatched q pairs = map (λ p. p.1) (filter (λ p. not (is_place pairs p.0)) (enumerate_from 0 q.atoms))

-- the pair leads to an atom of the head with the same predicate
pub record KeepsPredicate (q : Query) (rule : Rule) (pair : ℕ × ℕ) : Type 0 where
  pub in_query : pair.0 < length q.atoms
  pub in_head : pair.1 < length rule.heads
  pub name : (atom_at q.atoms pair.0).name ≡ (atom_at rule.heads pair.1).name
  pub arity : length (atom_at q.atoms pair.0).terms ≡ length (atom_at rule.heads pair.1).terms

-- A nonempty partial map from atoms of the query to atoms of the head that keeps predicates.
pub record IsMatching (q : Query) (rule : Rule) (pairs : List (ℕ × ℕ)) : Type 0 where
  pub nonempty : 0 < length pairs
  pub rising : IsStrictlyIncreasing (places pairs)
  pub each : (pair : ℕ × ℕ) → Contains pairs pair → KeepsPredicate q rule pair

-- the terms that stand at the same place of a matched pair
abbrev pub links : Query → ℕ → Rule → List (ℕ × ℕ) → List (Node × Node)
links q copy rule pairs = flat_map (λ p. zip (map query_node (atom_at q.atoms p.0).terms) (map (copy_node copy) (atom_at rule.heads p.1).terms)) pairs

-- a chain of links joins the two, so they are in one class
pub data AreJoined (links : List (Node × Node)) : Node → Node → Type 0 where
  alone : {x : Node} → AreJoined links x x
  forth : {x y z : Node} → Contains links (x, y) → AreJoined links y z → AreJoined links x z
  back : {x y z : Node} → Contains links (y, x) → AreJoined links y z → AreJoined links x z

-- no class has two constants
abbrev pub HasNoClash : List (Node × Node) → Type 0
HasNoClash links = (c d : ℕ) → AreJoined links (constant c) (constant d) → c ≡ d

-- the variable also occurs in an atom that isn't matched, or in the answer list
abbrev pub IsSeparating : Query → List (ℕ × ℕ) → ℕ → Type 0
IsSeparating q pairs v = OccursIn (unmatched q pairs) (Variable v) ⊎ Contains q.answers (Variable v)

-- a variable of the query that isn't separating
abbrev pub IsNonSeparating : Query → List (ℕ × ℕ) → Node → Type 0
IsNonSeparating q pairs (constant c) = ⊥
IsNonSeparating q pairs (of_query v) = ¬ IsSeparating q pairs v
IsNonSeparating q pairs (of_copy copy v) = ⊥

-- No class has two constants, and an existential variable meets only variables of the matched atoms that are not separating.
pub record IsPieceUnifier (q : Query) (rule : Rule) (pairs : List (ℕ × ℕ)) : Type 0 where
  pub matching : IsMatching q rule pairs
  pub no_clash : HasNoClash (links q 0 rule pairs)
  -- a class with an existential variable holds besides it only variables of the matched atoms that aren't separating
  pub existential : (v : ℕ) (x : Node) → IsExistential rule v → AreJoined (links q 0 rule pairs) (of_copy 0 v) x → (x ≡ of_copy 0 v) ⊎ IsNonSeparating q pairs x

-- a piece-unifier that isn't the union of two, over disjoint nonempty sets of atoms
pub record IsSinglePiece (q : Query) (rule : Rule) (pairs : List (ℕ × ℕ)) : Type 0 where
  pub unifier : IsPieceUnifier q rule pairs
  pub whole : (left : ℕ → Bool) → IsPieceUnifier q rule (filter (λ p. left p.0) pairs) → IsPieceUnifier q rule (filter (λ p. not (left p.0)) pairs) → ⊥
