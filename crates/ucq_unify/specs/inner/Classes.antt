-- What the classes of a choice's links tell.
use Rattle.std.specs.Prelude.{◌≡◌, ◌≢◌, ◌<◌, ◌⊎◌, ℕ, Bool, true, false, List, [], length, Contains, slice_index_or, Option, Some, None}
use Rattle.ucq_terms.specs.declared.Term.{Term}
use Rattle.ucq_terms.specs.declared.Term.TheVariants.{Variable}
use Rattle.ucq_terms.specs.Syntax.{Query, Rule}
use Rattle.ucq_terms.specs.Unifier.{Node, constant, of_query, of_copy, atom_at, AreJoined, KeepsPredicate}
use Rattle.ucq_classes.specs.Numbers.{Numbers, width_of}
use Rattle.ucq_classes.specs.Classes.{atom_links}
use Rattle.ucq_unify.specs.inner.Growing.{pairs_of, head_at}

-- the links of a place and the head that a choice has for it
abbrev pub place_links : Query → Rule → ℕ → Option ℕ → List (Node × Node)
place_links q rule place None = []
place_links q rule place (Some head) = atom_links (atom_at q.atoms place) 0 (atom_at rule.heads head)

-- the links join the variable of the query to one of the rule that is flagged existential
pub record IsFlaggedPrivate (flags : List Bool) (links : List (Node × Node)) (u : ℕ) : Type 0 where
  pub variable : ℕ
  pub below : variable < length flags
  pub flagged : slice_index_or flags variable false ≡ true
  pub joined : AreJoined links (of_copy 0 variable) (of_query u)

-- the existential variable is joined to a constant that has a number
pub record MeetsConstant (n : Numbers) (links : List (Node × Node)) (v : ℕ) : Type 0 where
  pub value : ℕ
  pub held : Contains n.constants value
  pub joined : AreJoined links (of_copy 0 v) (constant value)

-- to an answer variable
pub record MeetsAnswer (q : Query) (links : List (Node × Node)) (v : ℕ) : Type 0 where
  pub answer : ℕ
  pub held : Contains q.answers (Variable answer)
  pub joined : AreJoined links (of_copy 0 v) (of_query answer)

-- to another variable of the rule
pub record MeetsOther (n : Numbers) (links : List (Node × Node)) (v : ℕ) : Type 0 where
  pub other : ℕ
  pub below : other < width_of n 0
  pub differs : v ≢ other
  pub joined : AreJoined links (of_copy 0 v) (of_copy 0 other)

abbrev pub IsSpoilt : Query → Numbers → List (Node × Node) → ℕ → Type 0
IsSpoilt q n links v = MeetsConstant n links v ⊎ (MeetsAnswer q links v ⊎ MeetsOther n links v)

-- some existential variable is joined to one of these
pub record HasSpoilt (q : Query) (n : Numbers) (flags : List Bool) (links : List (Node × Node)) : Type 0 where
  pub variable : ℕ
  pub below : variable < length flags
  pub flagged : slice_index_or flags variable false ≡ true
  pub spoilt : IsSpoilt q n links variable

-- one of the terms is a variable that is joined to an existential one
pub record CallsFor (flags : List Bool) (links : List (Node × Node)) (terms : List Term) : Type 0 where
  pub variable : ℕ
  pub there : Contains terms (Variable variable)
  pub private_variable : IsFlaggedPrivate flags links variable

-- the atom at the place has no head yet, and such a variable stands in it
pub record IsCalledAt (flags : List Bool) (links : List (Node × Node)) (q : Query) (choice : List (Option ℕ)) (place : ℕ) : Type 0 where
  pub within : place < length q.atoms
  pub free : head_at choice place ≡ None
  pub calls : CallsFor flags links (atom_at q.atoms place).terms

-- each pair of the choice keeps the predicate
pub record KeepsEach (q : Query) (rule : Rule) (choice : List (Option ℕ)) : Type 0 where
  pub each : (pair : ℕ × ℕ) → Contains (pairs_of choice) pair → KeepsPredicate q rule pair
