-- Names for the classes of an aggregate's links, as a list by numbers of nodes.
use Rattle.std.specs.Prelude.{ℕ, ◌<◌, ◌+◌, ◌*◌, ◌&&◌, nat_lt, if◌then◌else◌, List, [], ◌∷◌, length, slice_index_or}
use Rattle.ucq_terms.specs.declared.Term.{Term}
use Rattle.ucq_terms.specs.declared.Term.TheVariants.{Constant, Variable}
use Rattle.ucq_terms.specs.Syntax.{Query, Rule, OccursIn}
use Rattle.ucq_terms.specs.Unifier.{Node, constant, of_query, of_copy}
use Rattle.ucq_terms.specs.Rewriting.{Member, all_links, NamesClasses}
use Rattle.ucq_terms.specs.Codes.{code}

-- A set of places of pieces, and the names of nodes by their numbers: first come as many constants, then the query's variables
-- below a bound, then for each member the rule's variables below another.
pub record Named : Type 0 where
  pub members : List ℕ
  pub names : List Term
  pub constants : ℕ
  pub variables : ℕ
  pub width : ℕ

-- a name for a node that has no number, past the other names
abbrev pub past : ℕ → Term → Term
past n (Constant c) = Constant c
past n (Variable v) = Variable (n + v)

-- the name of a node
abbrev pub name_of : Named → Node → Term
name_of j (constant c) = Constant c
name_of j (of_query v) = if nat_lt v j.variables then slice_index_or j.names (j.constants + v) (Constant 0) else past (length j.names) (code (of_query v))
name_of j (of_copy m v) =
    if nat_lt m (length j.members) && nat_lt v j.width then slice_index_or j.names (j.constants + j.variables + m * j.width + v) (Constant 0) else
    past (length j.names) (code (of_copy m v))

-- the names tell the classes of the members' links, and the variables that occur are below the bounds
pub record TellsNames (q : Query) (rule : Rule) (members : List Member) (j : Named) : Type 0 where
  pub names : NamesClasses (all_links q (rule ∷ []) members) (name_of j)
  pub of_query : (v : ℕ) → OccursIn q.atoms (Variable v) → v < j.variables
  pub of_heads : (v : ℕ) → OccursIn rule.heads (Variable v) → v < j.width
  pub of_body : (v : ℕ) → OccursIn rule.body (Variable v) → v < j.width
