-- The terms of a query and of copies of rules as numbers.
use Rattle.std.specs.Prelude.{◌≢◌, ◌<◌, ◌+◌, ◌^◌, ℕ, List, length, sum, take, Contains, AllPairs, nat_eq, slice_index_or}
use Rattle.std.specs.List.{position_or_len}
use Rattle.ucq_terms.specs.declared.Term.{Term}
use Rattle.ucq_terms.specs.Syntax.{Atom, Query, Rule, OccursIn}
use Rattle.ucq_terms.specs.Unifier.{Node, constant, of_query, of_copy, query_node, copy_node}
use Rattle.ucq_classes.specs.declared.nodes.Node.{Node as Held}
use Rattle.ucq_classes.specs.declared.nodes.Node.TheVariants.{Constant, OfQuery, OfCopy}

-- What has a number: these constants, the query's variables below a bound, and for each copy the variables of its rule below
-- the width of the copy.
pub record Numbers : Type 0 where
  pub constants : List ℕ
  pub variables : ℕ
  pub widths : List ℕ

-- the first number of a copy: it comes after the constants, the query's variables and the copies before it
abbrev pub first : Numbers → ℕ → ℕ
first n copy = length n.constants + n.variables + sum (take copy n.widths)

-- how many numbers there are
abbrev pub size : Numbers → ℕ
size n = first n (length n.widths)

abbrev pub width_of : Numbers → ℕ → ℕ
width_of n copy = slice_index_or n.widths copy 0

abbrev pub number : Numbers → Node → ℕ
number n (constant c) = position_or_len (nat_eq c) n.constants
number n (of_query v) = length n.constants + v
number n (of_copy copy v) = first n copy + v

-- the node has a number of its own
abbrev pub IsNumbered : Numbers → Node → Type 0
IsNumbered n (constant c) = Contains n.constants c
IsNumbered n (of_query v) = v < n.variables
IsNumbered n (of_copy copy v) = v < width_of n copy

-- no constant is there twice, and there are not too many numbers
pub record IsNumbering (n : Numbers) : Type 0 where
  pub once : AllPairs (λ (c d : ℕ). c ≢ d) n.constants
  pub small : size n < 2 ^ 32

-- the terms of the query's atoms have numbers
pub record NumbersQuery (n : Numbers) (q : Query) : Type 0 where
  pub each : (s : Term) → OccursIn q.atoms s → IsNumbered n (query_node s)

-- and those of the rule's head, as those of a copy
pub record NumbersHeads (n : Numbers) (copy : ℕ) (rule : Rule) : Type 0 where
  pub each : (s : Term) → OccursIn rule.heads s → IsNumbered n (copy_node copy s)

-- the same of one atom
pub record NumbersAtom (n : Numbers) (atom : Atom) : Type 0 where
  pub each : (s : Term) → Contains atom.terms s → IsNumbered n (query_node s)

pub record NumbersHead (n : Numbers) (copy : ℕ) (head : Atom) : Type 0 where
  pub each : (s : Term) → Contains head.terms s → IsNumbered n (copy_node copy s)

-- the node that a value of the code stands for
abbrev pub node_of : Held → Node
node_of (Constant c) = constant c
node_of (OfQuery v) = of_query v
node_of (OfCopy copy v) = of_copy copy v
