-- The names of queries and rules: predicates and constants are numbers, and names have the numbers below a count. (This
-- project's own.)
use Rattle.std.specs.Prelude.{ℕ, ◌<◌, List, All}
use Rattle.ucq_terms.specs.declared.Term.{Term}
use Rattle.ucq_terms.specs.declared.Term.TheVariants.{Constant, Variable}
use Rattle.ucq_terms.specs.Syntax.{Atom, Rule, Query, Problem}
use Rattle.ucq_terms.specs.Homomorphism.{Covers, IsCoreOf}
use Rattle.ucq_terms.specs.Rewriting.{IsOneStep}

-- a constant has a name
abbrev pub IsHeldTerm : ℕ → Term → Type 0
IsHeldTerm count (Constant c) = c < count
IsHeldTerm count (Variable v) = Unit {0}

-- the predicate and each constant of the atom have names
pub record IsHeldAtom (count : ℕ) (a : Atom) : Type 0 where
  pub name : a.name < count
  pub terms : All (IsHeldTerm count) a.terms

-- those of each of the atoms
abbrev pub AreHeldAtoms : ℕ → List Atom → Type 0
AreHeldAtoms count atoms = All (IsHeldAtom count) atoms

-- each predicate and constant of the query has a name
pub record IsHeldQuery (count : ℕ) (q : Query) : Type 0 where
  pub answers : All (IsHeldTerm count) q.answers
  pub atoms : AreHeldAtoms count q.atoms

-- the same for a rule
pub record IsHeldRule (count : ℕ) (rule : Rule) : Type 0 where
  pub heads : AreHeldAtoms count rule.heads
  pub body : AreHeldAtoms count rule.body

-- and for the rules and the query of a problem
pub record IsHeldProblem (count : ℕ) (problem : Problem) : Type 0 where
  pub rules : All (IsHeldRule count) problem.rules
  pub query : IsHeldQuery count problem.query

-- where all names of the query and the rules are held, those of each one-step rewriting are
abbrev pub OneStepKeepsNames : Type 0
OneStepKeepsNames =
    (count : ℕ) (rules : List Rule) (q result : Query) →
    All (IsHeldRule count) rules →
    IsHeldQuery count q →
    IsOneStep rules q result →
    IsHeldQuery count result

-- a query has no other names than one that it covers
abbrev pub CoveringKeepsNames : Type 0
CoveringKeepsNames = (count : ℕ) (a b : Query) → Covers a b → IsHeldQuery count b → IsHeldQuery count a

-- and a core has no other names than its query
abbrev pub CoreKeepsNames : Type 0
CoreKeepsNames = (count : ℕ) (q core : Query) → IsCoreOf q core → IsHeldQuery count q → IsHeldQuery count core
