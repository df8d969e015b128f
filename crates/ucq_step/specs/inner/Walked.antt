-- What a walk over sets of pieces has found.
use Rattle.std.specs.Prelude.{◌≡◌, ℕ, Bool, true, false, List, Result, Ok, Err}
use Rattle.ucq_terms.specs.Syntax.{Rule, Query}
use Rattle.ucq_join.specs.Names.{Named}
use Rattle.ucq_join.specs.Walk.{Walk, MovesTo, IsLast}
use Rattle.ucq_step.specs.Kept.{AreDifferent, HaveCores}
use Rattle.ucq_step.specs.Steps.{IsStepFault, AreCoresUpTo, AreSteps}
use Rattle.ucq_step.specs.declared.StepFault.{StepFault}

-- the walk goes through the pieces of the query and the rule
pub record WalksIn (w : Walk) (q : Query) (rule : Rule) (pieces : List (List (ℕ × ℕ))) : Type 0 where
  pub same_query : w.query ≡ q
  pub same_rule : w.rule ≡ rule
  pub same_pieces : w.pieces ≡ pieces

-- the cores are those of all sets up to where the walk stands, and have one for each form
pub record AreFoundTo (w : Walk) (forms cores : List Query) : Type 0 where
  pub have : HaveCores forms cores
  pub up_to : AreCoresUpTo w.query w.rule w.pieces w.present cores

-- the walk goes on to a next set, or is at its end; or why there is no answer
abbrev pub DoesAddNext : Walk → Walk → Query → Rule → Result Bool StepFault → Type 0
DoesAddNext before after q rule (Ok true) = (j : Named) × MovesTo before after j
DoesAddNext before after q rule (Ok false) = IsLast before × (after ≡ before)
DoesAddNext before after q rule (Err fault) = IsStepFault q rule fault

-- the cores of the whole walk, or why there is no answer
abbrev pub AreCoresOf : Query → Rule → Result (List Query) StepFault → Type 0
AreCoresOf q rule (Ok cores) = AreDifferent cores → AreSteps q rule cores
AreCoresOf q rule (Err fault) = IsStepFault q rule fault
