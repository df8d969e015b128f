-- The parts of a rewriting, by the names of an aggregate.
use Rattle.std.specs.Prelude.{◌<◌, ◌++◌, ℕ, zero, suc, not, if◌then◌else◌, List, [], ◌∷◌, map, filter, length}
use Rattle.std.specs.List.{enumerate_from}
use Rattle.ucq_terms.specs.declared.Term.{Term}
use Rattle.ucq_terms.specs.Syntax.{Atom, Rule, Query}
use Rattle.ucq_terms.specs.Unifier.{Node, query_node, copy_node, is_place, unmatched}
use Rattle.ucq_terms.specs.Rewriting.{all_pairs, atoms_named}
use Rattle.ucq_join.specs.Names.{Named, name_of, TellsNames}
use Rattle.ucq_join.specs.Walk.{members_at, IsJoin}
use Rattle.ucq_step.specs.declared.rewriting.Side.{Side}
use Rattle.ucq_step.specs.declared.rewriting.Side.TheVariants.{OfQuery, OfCopy}

-- a term of the side as a node
abbrev pub node_on : Side → Term → Node
node_on OfQuery t = query_node t
node_on (OfCopy copy) t = copy_node copy t

-- the name of a term of the side
abbrev pub side_name : Named → Side → Term → Term
side_name j side t = name_of j (node_on side t)

-- a number above the side's variables
abbrev pub bound_on : Named → Side → ℕ
bound_on j OfQuery = j.variables
bound_on j (OfCopy copy) = j.width

-- the copy is a member's
abbrev pub IsSideOf : Named → Side → Type 0
IsSideOf j OfQuery = Unit {0}
IsSideOf j (OfCopy copy) = copy < length j.members

-- the atom with the names of its terms
abbrev pub atom_named : (Term → Term) → Atom → Atom
atom_named f a = record { name = a.name; terms = map f a.terms }

-- the body of each of the first copies, with the names of its terms
abbrev pub copies_named : Named → List Atom → ℕ → List Atom
copies_named j body zero = []
copies_named j body (suc copy) = copies_named j body copy ++ atoms_named (side_name j (OfCopy copy)) body

-- the atoms whose places, from 0 on, are in no pair
abbrev pub left_out : List (ℕ × ℕ) → List Atom → List Atom
left_out pairs atoms = map (λ p. p.1) (filter (λ p. not (is_place pairs p.0)) (enumerate_from 0 atoms))

-- the atom, unless its place is in a pair
abbrev pub left_out_at : List (ℕ × ℕ) → ℕ → Atom → List Atom
left_out_at pairs place atom = if is_place pairs place then [] else atom ∷ []

-- the pairs of the pieces at these places
abbrev pub pairs_at : List (List (ℕ × ℕ)) → List ℕ → List (ℕ × ℕ)
pairs_at pieces places = all_pairs (members_at pieces places)

-- the query's answers by their names, and the bodies of the copies and the unmatched atoms by theirs
abbrev pub rewriting_of : Query → Rule → List (List (ℕ × ℕ)) → Named → Query
rewriting_of q rule pieces j = record {
  answers = map (side_name j OfQuery) q.answers;
  atoms = copies_named j rule.body (length j.members) ++ atoms_named (side_name j OfQuery) (unmatched q (pairs_at pieces j.members));
}

-- what a walk tells of a set of pieces
pub record TellsMembers (q : Query) (rule : Rule) (pieces : List (List (ℕ × ℕ))) (j : Named) : Type 0 where
  pub join : IsJoin q rule pieces j.members
  pub names : TellsNames q rule (members_at pieces j.members) j
