use Rattle.std.proofs.Common.{ap, ◌∙◌}
use Rattle.ucq_store.specs.Store.{Store}
use Rattle.ucq_pool.proofs.Enough.{finishes}
use Rattle.ucq_pool.proofs.solo.alone.Goals as goal

pub returns-clause-enough : goal.returns-clause-enough
returns-clause-enough c =
    let task = c.in_ok-ended.ensures.task in
    let new = c.in_ok-store.ensures.new.same in
    finishes c.enough_budget.ensures c.in_ok-ended.ended c.args.problem.now c.args.budget c.rows.ensures.lawful
    (task.problem ∙ ap (λ (s : Store). s.problem) new) (task.budget ∙ ap (λ (s : Store). s.budget) new) c.in_ok-ended.ensures.done
