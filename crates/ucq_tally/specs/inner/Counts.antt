-- How many one-step rewritings there are.
use Rattle.std.specs.Prelude.{◌≡◌, ◌≢◌, ◌⊎◌, ℕ, List, length, Contains, AllPairs}
use Rattle.ucq_terms.specs.Syntax.{Query, Rule, Problem}
use Rattle.ucq_terms.specs.Rewriting.{rule_at}
use Rattle.ucq_unify.specs.Pieces.{AreSinglePieces}
use Rattle.ucq_join.specs.Walk.{IsJoin}
use Rattle.ucq_store.specs.declared.RowState.{RowState}
use Rattle.ucq_store.specs.declared.RowState.TheVariants.{Waiting, Open, Claimed, Done, Skipped}
use Rattle.ucq_store.specs.Store.{Store, query_of, state_of, IsFinished, IsCut}
use Rattle.ucq_store.specs.Lawful.{IsLawfulByLevels}
use Rattle.ucq_tally.specs.inner.Sums.{IsSaturated, IsSumOf}
use Rattle.ucq_tally.specs.declared.counting.Tally.{Tally}

-- The sets of pieces that make an aggregate, each once. A set is the list of its places, rising.
pub record AreAggregates (q : Query) (rule : Rule) (pieces : List (List (ℕ × ℕ))) (sets : List (List ℕ)) : Type 0 where
  pub each : (set : List ℕ) → Contains sets set → IsJoin q rule pieces set
  pub all : (set : List ℕ) → IsJoin q rule pieces set → Contains sets set
  pub once : AllPairs (λ (a b : List ℕ). a ≢ b) sets

-- The query has so many one-step rewritings with the rule: one for each set of single pieces that make an aggregate.
pub record HasRewritings (q : Query) (rule : Rule) (number : ℕ) : Type 0 where
  pub pieces : List (List (ℕ × ℕ))
  pub single : AreSinglePieces q rule pieces
  pub sets : List (List ℕ)
  pub aggregates : AreAggregates q rule pieces sets
  pub many : number ≡ length sets

-- so many with each of the rules, taken together
abbrev pub HasRewritingsWithAll : Query → List Rule → ℕ → Type 0
HasRewritingsWithAll q rules number = IsSumOf (λ place count. HasRewritings q (rule_at rules place) count) (length rules) number

-- How many a row of this state and this query adds: those with all rules where it was tried, and none where it wasn't. In
-- a store that nobody works on any more, a claimed row is one that cut it.
abbrev pub AddsRewritings : List Rule → RowState → Query → ℕ → Type 0
AddsRewritings rules Waiting q number = number ≡ 0
AddsRewritings rules Open q number = number ≡ 0
AddsRewritings rules (Claimed claim) q number = HasRewritingsWithAll q rules number
AddsRewritings rules Done q number = HasRewritingsWithAll q rules number
AddsRewritings rules Skipped q number = number ≡ 0

-- how many all rows of a store add
abbrev pub HasTried : Store → ℕ → Type 0
HasTried s number = IsSumOf (λ row count. AddsRewritings s.problem.rules (state_of s row) (query_of s row) count) (length s.rows) number

-- The tally of some lawful store of the problem and the budget that is finished or cut.
pub record IsTally (problem : Problem) (budget : ℕ) (tally : Tally) : Type 0 where
  pub store : Store
  pub lawful : IsLawfulByLevels store
  pub ended : IsFinished store ⊎ IsCut store
  pub of_problem : store.problem ≡ problem
  pub of_budget : store.budget ≡ budget
  pub rows : tally.rows ≡ length store.rows
  pub tried : IsSaturated (HasTried store) tally.rewritings
