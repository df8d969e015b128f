-- The terms of a query and of copies of one rule, with numbers.
use Rattle.std.specs.Prelude.{◌≡◌, ◌<◌, ◌≤◌, ℕ, List, length, Contains}
use Rattle.ucq_terms.specs.declared.Term.TheVariants.{Constant, Variable}
use Rattle.ucq_terms.specs.declared.TheConstants.{ATOMS}
use Rattle.ucq_terms.specs.Syntax.{Query, Rule, OccursIn}
use Rattle.ucq_terms.specs.Unifier.{KeepsPredicate}
use Rattle.ucq_classes.specs.Numbers.{Numbers, width_of, NumbersQuery, NumbersHeads}

-- the rule's variables are below the width
pub record IsWidthOf (rule : Rule) (width : ℕ) : Type 0 where
  pub heads : (v : ℕ) → OccursIn rule.heads (Variable v) → v < width
  pub body : (v : ℕ) → OccursIn rule.body (Variable v) → v < width
  pub low : width ≤ 4096

-- The terms of the query, which has no more atoms than are stored, and the constants of the rule's head have numbers, so
-- that copies of the rule can have some, and there are not too many.
pub record IsReadyFor (q : Query) (rule : Rule) (n : Numbers) : Type 0 where
  pub query : NumbersQuery n q
  pub constants : (c : ℕ) → OccursIn rule.heads (Constant c) → Contains n.constants c
  pub few_atoms : length q.atoms ≤ ATOMS
  pub few_constants : length n.constants ≤ 2560
  pub few_variables : n.variables ≤ 4096

-- each copy has this width
pub record HasCopyWidth (n : Numbers) (width : ℕ) : Type 0 where
  pub each : (copy : ℕ) → copy < length n.widths → width_of n copy ≡ width

-- The terms of the query, which has no more atoms than are stored, and of each copy of the rule's head have numbers.
pub record AreNumbered (q : Query) (rule : Rule) (n : Numbers) : Type 0 where
  pub query : NumbersQuery n q
  pub heads : (copy : ℕ) → copy < length n.widths → NumbersHeads n copy rule
  pub few_atoms : length q.atoms ≤ ATOMS

-- the pairs keep the predicates
pub record KeepsEach (q : Query) (rule : Rule) (pairs : List (ℕ × ℕ)) : Type 0 where
  pub each : (pair : ℕ × ℕ) → Contains pairs pair → KeepsPredicate q rule pair
