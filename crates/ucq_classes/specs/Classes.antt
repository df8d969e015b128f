-- The classes of a numbering's terms, which links make.
use Rattle.std.specs.Prelude.{◌≡◌, ℕ, List, length, Contains, map, zip}
use Rattle.ucq_partition.specs.Partition.{IsMadeBy}
use Rattle.ucq_terms.specs.Syntax.{Atom}
use Rattle.ucq_terms.specs.Unifier.{Node, query_node, copy_node}
use Rattle.ucq_classes.specs.Numbers.{Numbers, size, number, IsNumbered}

-- A numbering, and for each number the label of its class.
pub record Labels : Type 0 where
  pub numbers : Numbers
  pub labels : List ℕ

-- each number has a label
pub record IsLabelled (c : Labels) : Type 0 where
  pub room : length c.labels ≡ size c.numbers

-- The labels tell the classes that the links make: nodes that have numbers have one label exactly where a chain of links
-- joins them.
pub record IsClassed (links : List (Node × Node)) (c : Labels) : Type 0 where
  -- joins of numbers made the labels
  pub joins : List (ℕ × ℕ)
  pub made : IsMadeBy joins c.labels
  -- and they are the links', by the numbers of the ends
  pub numbered : (l : Node × Node) → Contains links l → IsNumbered c.numbers l.0 × IsNumbered c.numbers l.1
  pub to : (l : Node × Node) → Contains links l → Contains {X = ℕ × ℕ} joins (number c.numbers l.0, number c.numbers l.1)
  pub from : (j : ℕ × ℕ) → Contains joins j → (l : Node × Node) × Contains links l × (number c.numbers l.0 ≡ j.0) × (number c.numbers l.1 ≡ j.1)

-- the links of two atoms: of the terms that stand at one place
abbrev pub atom_links : Atom → ℕ → Atom → List (Node × Node)
atom_links atom copy head = zip (map query_node atom.terms) (map (copy_node copy) head.terms)
