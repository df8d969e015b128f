use Rattle.std.proofs.Common.{subst, ◌∙◌}
use Rattle.ucq_pool.specs.inner.Shared.{IsStage}
use Rattle.ucq_pool.specs.declared.crew.Stage.{Stage}
use Rattle.ucq_pool.proofs.Enough.{finishes}
use Rattle.ucq_pool.proofs.crew.explore_levels.Goals as goal

pub returns-in-Ended-clause-enough : goal.returns-in-Ended-clause-enough
returns-in-Ended-clause-enough g c =
    let stage = subst (λ (s : Stage). IsStage c.args.problem.now c.loop.store.budget s) c.in-Ended.is c.in_ok-going.ensures.stage in
    finishes c.enough_budget.ensures c.in-Ended.ended c.args.problem.now c.args.store.budget c.rows.ensures.lawful stage.0 (stage.1 ∙ c.loop.invariant.3) stage.2
