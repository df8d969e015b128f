-- The pairs of a piece that link variables of the query to existential variables.
use Rattle.std.specs.Prelude.{ℕ, List, Contains, zip}
use Rattle.ucq_terms.specs.declared.Term.{Term}
use Rattle.ucq_terms.specs.declared.Term.TheVariants.{Variable}
use Rattle.ucq_terms.specs.Syntax.{Query, Rule}
use Rattle.ucq_terms.specs.Unifier.{atom_at}
use Rattle.ucq_terms.specs.Chase.{IsExistential}

-- the terms that stand at one place of a matched pair
abbrev pub beside : Query → Rule → ℕ × ℕ → List (Term × Term)
beside q rule pair = zip (atom_at q.atoms pair.0).terms (atom_at rule.heads pair.1).terms

abbrev pub AreBeside : Query → Rule → ℕ × ℕ → Term → Term → Type 0
AreBeside q rule pair s t = Contains (beside q rule pair) (s, t)

-- the pair links the query's variable to an existential variable
pub record Touches (q : Query) (rule : Rule) (pair : ℕ × ℕ) (u : ℕ) : Type 0 where
  pub variable : ℕ
  pub existential : IsExistential rule variable
  pub at : AreBeside q rule pair (Variable u) (Variable variable)
