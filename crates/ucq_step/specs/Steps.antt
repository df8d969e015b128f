-- What a step from a query with a rule answers.
use Rattle.std.specs.Prelude.{◌<◌, ◌≤◌, ◌⊎◌, ℕ, List, [], ◌∷◌, Contains, Result, Ok, Err}
use Rattle.ucq_terms.specs.declared.TheConstants.{ATOMS}
use Rattle.ucq_terms.specs.Syntax.{Rule, Query}
use Rattle.ucq_terms.specs.Homomorphism.{Covers, IsCoreOf, IsEquivalent}
use Rattle.ucq_terms.specs.Rewriting.{HasWidth, Rewrites, IsOneStepWith}
use Rattle.ucq_join.specs.Walk.{members_at, IsJoin, ComesAfter}
use Rattle.ucq_step.specs.Kept.{AreDifferent}
use Rattle.ucq_step.specs.declared.Steps.{Steps}
use Rattle.ucq_step.specs.declared.StepFault.{StepFault}
use Rattle.ucq_step.specs.declared.StepFault.TheVariants.{Wide, Memory}

-- some aggregate of single pieces with the rule rewrites the query into the result
abbrev pub IsRewriting : Query → Rule → Query → Type 0
IsRewriting q rule result = IsOneStepWith (rule ∷ []) 0 q result

-- it is a core of some one-step rewriting
pub record IsCoreOfStep (q : Query) (rule : Rule) (core : Query) : Type 0 where
  pub rewriting : Query
  pub step : IsRewriting q rule rewriting
  pub shrunk : IsCoreOf rewriting core

-- one of the cores covers the rewriting
pub record IsCoveredBy (cores : List Query) (rewriting : Query) : Type 0 where
  pub core : Query
  pub among : Contains cores core
  pub covers : Covers core rewriting

-- the query's atoms are not more than a stored query has
pub record IsNarrow (q : Query) : Type 0 where
  pub few : (width : ℕ) → HasWidth q.atoms width → width ≤ ATOMS

-- Each is a core of a one-step rewriting, each one-step rewriting is covered by one of them, and none is too wide. No core
-- stands twice.
pub record AreSteps (q : Query) (rule : Rule) (cores : List Query) : Type 0 where
  pub each : (core : Query) → Contains cores core → IsCoreOfStep q rule core
  pub all : (rewriting : Query) → IsRewriting q rule rewriting → IsCoveredBy cores rewriting
  pub narrow : (rewriting : Query) → IsRewriting q rule rewriting → IsNarrow rewriting
  pub once : AreDifferent cores

-- some one-step rewriting has this width, and it is too wide
pub record IsTooWide (q : Query) (rule : Rule) (count : ℕ) : Type 0 where
  pub rewriting : Query
  pub step : IsRewriting q rule rewriting
  pub width : HasWidth rewriting.atoms count
  pub above : ATOMS < count

-- Why there is no answer. Want of memory is free.
abbrev pub IsStepFault : Query → Rule → StepFault → Type 0
IsStepFault q rule (Wide count) = IsTooWide q rule count
IsStepFault q rule Memory = Unit {0}

abbrev pub IsStepResult : Query → Rule → Result Steps StepFault → Type 0
IsStepResult q rule (Ok steps) = AreSteps q rule steps.cores.items
IsStepResult q rule (Err fault) = IsStepFault q rule fault

-- The query is equivalent to a rewriting by the pieces at these places, which is not too wide.
pub record IsRewrittenAt (q : Query) (rule : Rule) (pieces : List (List (ℕ × ℕ))) (places : List ℕ) (result : Query) : Type 0 where
  pub rewriting : Query
  pub rewrites : Rewrites q (rule ∷ []) (members_at pieces places) rewriting
  pub equivalent : IsEquivalent rewriting result
  pub narrow : IsNarrow rewriting

abbrev pub IsRewriteResult : Query → Rule → List (List (ℕ × ℕ)) → List ℕ → Result Query StepFault → Type 0
IsRewriteResult q rule pieces places (Ok result) = IsRewrittenAt q rule pieces places result
IsRewriteResult q rule pieces places (Err fault) = IsStepFault q rule fault

-- The query is a core of a rewriting by the pieces at these places, which is not too wide.
pub record IsCoreAt (q : Query) (rule : Rule) (pieces : List (List (ℕ × ℕ))) (places : List ℕ) (core : Query) : Type 0 where
  pub rewriting : Query
  pub rewrites : Rewrites q (rule ∷ []) (members_at pieces places) rewriting
  pub shrunk : IsCoreOf rewriting core
  pub narrow : IsNarrow rewriting

-- one of the cores is of a rewriting by the pieces at these places
pub record HasCoreAt (q : Query) (rule : Rule) (pieces : List (List (ℕ × ℕ))) (cores : List Query) (places : List ℕ) : Type 0 where
  pub core : Query
  pub among : Contains cores core
  pub at : IsCoreAt q rule pieces places core

-- Each is a core of a step, and each set of pieces that does not come after the present one has such a core.
pub record AreCoresUpTo (q : Query) (rule : Rule) (pieces : List (List (ℕ × ℕ))) (present : List ℕ) (cores : List Query) : Type 0 where
  pub each : (core : Query) → Contains cores core → IsCoreOfStep q rule core
  pub all : (places : List ℕ) → IsJoin q rule pieces places → ComesAfter present places ⊎ HasCoreAt q rule pieces cores places
