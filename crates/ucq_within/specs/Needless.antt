-- Rules that other rules make needless. (Containment of a rule's body in its head is after Johnson and Klug 1984.)
use Rattle.std.specs.Prelude.{◌≡◌, ◌↔◌, ◌<◌, ◌≤◌, ℕ, Bool, nat_eq, List, ◌∷◌, filter, length, map, Option, Some, None}
use Rattle.std.specs.List.{filter_map, list_any}
use Rattle.ucq_terms.specs.declared.Term.{Term}
use Rattle.ucq_terms.specs.declared.Term.TheVariants.{Variable}
use Rattle.ucq_terms.specs.Syntax.{Atom, Rule, Query}
use Rattle.ucq_terms.specs.Chase.{IsChaseAnswer}
use Rattle.ucq_terms.specs.Numbering.{variable_of, terms_of, first_occurrences, normal_query}
use Rattle.ucq_within.specs.Containment.{asked_under, IsContained}

-- the rule follows from others: each answer of any query over any facts under it and them is one under them alone
pub record Follows (rule : Rule) (others : List Rule) : Type 0 where
  pub answers : (q : Query) (facts : List Atom) (tuple : List Term) → IsChaseAnswer (asked_under (rule ∷ others) q) facts tuple → IsChaseAnswer (asked_under others q) facts tuple

-- whether the variable stands in an atom
abbrev pub stands_in : List Atom → ℕ → Bool
stands_in atoms v = list_any (nat_eq v) (filter_map variable_of (terms_of atoms))

-- the frontier: the variables of the head that stand in the body, each once, in order of first occurrence in the head
abbrev pub frontier_of : Rule → List ℕ
frontier_of rule = first_occurrences nat_eq (filter (stands_in rule.body) (filter_map variable_of (terms_of rule.heads)))

-- the atoms as a query that asks for the rule's frontier
abbrev pub asked_of : Rule → List Atom → Query
asked_of rule atoms = normal_query (record { answers = map Variable (frontier_of rule); atoms = atoms })

-- the queries of the head and of the body, where the frontier has as few variables as a query has answers
abbrev pub AreRuleQueries : Rule → Option (Query × Query) → Type 0
AreRuleQueries rule (Some queries) = (length (frontier_of rule) ≤ 16) × (queries.0 ≡ asked_of rule rule.heads) × (queries.1 ≡ asked_of rule rule.body)
AreRuleQueries rule None = 16 < length (frontier_of rule)

-- a rule follows from others exactly where, under them, the query of its body is contained in that of its head
abbrev pub FollowsIsContainment : Type 0
FollowsIsContainment = (rule : Rule) (others : List Rule) → Follows rule others ↔ IsContained others (asked_of rule rule.body) (asked_of rule rule.heads)
