use Rattle.std.proofs.Common.{◌∙◌}
use Rattle.ucq_pool.proofs.Published.{published_task}
use Rattle.ucq_pool.proofs.task.TaskStore.publish.Goals as goal

pub invariant_of-self : goal.invariant_of-self
invariant_of-self g c =
    let task = published_task c.args.self.now.store c.publish_own.new.self c.args.claim _ _ c.publish_own.result c.publish_own.ensures.does in
    record {
      problem = task.problem ∙ c.args.self.now.problem;
      budget = task.budget ∙ c.args.self.now.budget;
    }
