-- What is found with the one rule of a problem.
use Rattle.std.proofs.Common.{◌≡◌, ℕ, ◌<◌, List, [], ◌∷◌, length, refl, subst, inl, inr, Contains, get_or, arith}
use Rattle.std.proofs.lemmas.List.Elements.{All-nil}
use Rattle.ucq_terms.specs.Syntax.{Rule, Query}
use Rattle.ucq_terms.proofs.Lists.{Contains-first, Contains-cons_cases, Contains-empty}
use Rattle.ucq_store.specs.Candidates.{Candidate}
use Rattle.ucq_store.specs.Lawful.{IsCoreOfOneStep}
use Rattle.ucq_store.specs.Reports.{AreFound}
use Rattle.ucq_step.specs.Steps.{AreSteps}
use Rattle.ucq_pool.specs.inner.ByHead.{AreRelevant}
use Rattle.ucq_pool.specs.Rewritings.{AreFoundBefore, AreProposed}
use Rattle.ucq_pool.proofs.Found.{found_more, found_all}

-- before the rule nothing is to be found
none_found : (rules : List Rule) (q : Query) → AreFoundBefore rules (0 ∷ []) 0 q []
none_found rules q = record { cores = []; fresh = tt; derived = All-nil (IsCoreOfOneStep rules q); covered = λ k result less step. absurd (omega arith) }

module _ (rules : List Rule) (one : length rules ≡ 1) where
  within_one : (number : ℕ) → Contains (0 ∷ []) number → number < length rules
  within_one number among = elim (Contains-cons_cases 0 [] number among) [
    | inl e ↦ omega (arith, one, e)
    | inr none ↦ absurd (Contains-empty number none)
  ]

  first_relevant : (q : Query) → AreRelevant rules q (0 ∷ [])
  first_relevant q = record {
    rising = λ k less. absurd (omega arith);
    within = within_one;
    all = λ number pair within keeps. let first : 0 ≡ number = omega (arith, one, within) in subst (Contains (0 ∷ [])) first (Contains-first 0 []);
  }

  pub one_found : (rule : Rule) → rule ≡ get_or rules 0 rule → (q : Query) (candidates : List Candidate) (cores : List Query) → AreSteps q rule cores →
      AreProposed [] cores candidates → AreFound rules q candidates
  one_found rule is q candidates cores steps proposed =
      found_all rules (0 ∷ []) 1 q candidates (first_relevant q) (omega arith)
      (found_more rules 0 rule (omega (arith, one)) is (0 ∷ []) 0 refl q [] candidates cores (none_found rules q) steps proposed)
