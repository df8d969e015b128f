-- The answers of a union over facts. (Standard: Abiteboul, Hull and Vianu 1995; their order is this project's own.)
use Rattle.std.specs.Prelude.{ℕ, ◌↔◌, List, map, Any, Contains}
use Rattle.std.specs.List.Sorted.{IsStrictlySortedBy}
use Rattle.ucq_terms.specs.declared.Term.{Term}
use Rattle.ucq_terms.specs.declared.Term.TheVariants.{Constant}
use Rattle.ucq_terms.specs.Syntax.{Atom, Query}
use Rattle.ucq_terms.specs.Homomorphism.{MapsInto}
use Rattle.ucq_eval.specs.Tuples.{tuple_cmp}

-- the constants of a tuple, as terms
abbrev pub constants : List ℕ → List Term
constants tuple = map Constant tuple

-- some member of the union maps into the facts with these constants
abbrev pub IsAnswer : List Query → List Atom → List ℕ → Type 0
IsAnswer union facts tuple = Any (λ q. MapsInto q facts (constants tuple)) union

-- Every tuple of constants with which some member maps into the facts, each once, in byte order of their texts.
pub record AreAnswers (names : List (List ℕ)) (union : List Query) (facts : List Atom) (tuples : List (List ℕ)) : Type 0 where
  pub each : (tuple : List ℕ) → Contains tuples tuple ↔ IsAnswer union facts tuple
  pub order : IsStrictlySortedBy (tuple_cmp names) tuples

-- these tuples, in some order
pub record AreTuplesOf (union : List Query) (facts : List Atom) (tuples : List (List ℕ)) : Type 0 where
  pub each : (tuple : List ℕ) → Contains tuples tuple ↔ IsAnswer union facts tuple

-- names, and the tuples that are printed with them
pub record AnswersValue : Type 0 where
  pub names : List (List ℕ)
  pub tuples : List (List ℕ)
