-- The terms of a query and of a rule's head, with numbers.
use Rattle.std.specs.Prelude.{◌≡◌, ◌<◌, ◌≤◌, ◌↔◌, ℕ, Bool, true, false, List, length, Contains, slice_index_or}
use Rattle.ucq_terms.specs.declared.Term.TheVariants.{Variable}
use Rattle.ucq_terms.specs.declared.TheConstants.{ATOMS}
use Rattle.ucq_terms.specs.Syntax.{Query, Rule, OccursIn}
use Rattle.ucq_terms.specs.Chase.{IsExistential}
use Rattle.ucq_classes.specs.Numbers.{Numbers, width_of, NumbersQuery, NumbersHeads}

-- a flag for each variable below the bound, which tells whether it is existential
pub record HasFlags (rule : Rule) (bound : ℕ) (flags : List Bool) : Type 0 where
  pub count : length flags ≡ bound
  pub tells : (v : ℕ) → v < bound → (slice_index_or flags v false ≡ true) ↔ IsExistential rule v

-- a flag for each variable of the rule's head, and not too many
pub record AreFlags (rule : Rule) (flags : List Bool) : Type 0 where
  pub told : HasFlags rule (length flags) flags
  pub heads : (v : ℕ) → OccursIn rule.heads (Variable v) → v < length flags
  pub few : length flags ≤ 4096

-- the variables of the answers are numbered
pub record HasLowAnswers (q : Query) (n : Numbers) : Type 0 where
  pub low : (v : ℕ) → Contains q.answers (Variable v) → v < n.variables

-- The terms of the query, which has no more atoms than are stored, and of the rule's head have numbers, the rule's as copy 0,
-- and the flags tell the existential variables.
pub record AreNumbered (q : Query) (rule : Rule) (flags : List Bool) (n : Numbers) : Type 0 where
  pub query : NumbersQuery n q
  pub heads : NumbersHeads n 0 rule
  pub told : HasFlags rule (width_of n 0) flags
  pub answers : HasLowAnswers q n
  pub one_copy : length n.widths ≡ 1
  pub few_atoms : length q.atoms ≤ ATOMS
