-- The single pieces of a query with a rule.
use Rattle.std.specs.Prelude.{◌≢◌, ℕ, List, Contains, AllPairs}
use Rattle.ucq_terms.specs.Syntax.{Rule, Query}
use Rattle.ucq_terms.specs.Unifier.{IsSinglePiece}

-- the single-piece unifiers of the query with the rule, each once
pub record AreSinglePieces (q : Query) (rule : Rule) (pieces : List (List (ℕ × ℕ))) : Type 0 where
  pub single : (piece : List (ℕ × ℕ)) → Contains pieces piece → IsSinglePiece q rule piece
  pub all : (piece : List (ℕ × ℕ)) → IsSinglePiece q rule piece → Contains pieces piece
  pub once : AllPairs (λ (a b : List (ℕ × ℕ)). a ≢ b) pieces
