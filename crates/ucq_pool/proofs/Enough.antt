-- Where the budget is enough, a store that is finished or cut is finished.
use Rattle.std.proofs.Common.{◌≡◌, ◌⊎◌, ℕ, inl, inr, sym, subst}
use Rattle.ucq_terms.specs.Syntax.{Problem}
use Rattle.ucq_store.specs.Store.{Store, IsFinished, IsCut}
use Rattle.ucq_store.specs.Lawful.{IsLawfulByLevels}
use Rattle.ucq_store.specs.Laws.{EnoughBudget, IsEnough}
use Rattle.ucq_pool.proofs.Explored.{not_cut}

pub finishes : EnoughBudget → (s : Store) (problem : Problem) (budget : ℕ) → IsLawfulByLevels s → s.problem ≡ problem → s.budget ≡ budget →
    IsFinished s ⊎ IsCut s → IsEnough problem budget → IsFinished s
finishes law s problem budget lawful same_problem same_budget (inl done) enough = done
finishes law s problem budget lawful same_problem same_budget (inr cut) enough =
    let here : IsEnough s.problem s.budget =
    subst (λ (n : ℕ). IsEnough s.problem n) (sym same_budget) (subst (λ (p : Problem). IsEnough p budget) (sym same_problem) enough) in
    absurd (not_cut s (law s here.last here.members lawful here.ends here.fits).0 cut)
