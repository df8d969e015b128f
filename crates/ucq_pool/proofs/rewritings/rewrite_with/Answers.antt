use Rattle.std.proofs.Common.{slice_index, refl, subst}
use Rattle.ucq_step.specs.declared.StepFault.{StepFault}
use Rattle.ucq_step.specs.Steps.{IsStepFault}
use Rattle.ucq_pool.proofs.Found.{found_more, wide_step}
use Rattle.ucq_pool.proofs.rewritings.rewrite_with.Goals as goal

pub returns-in_ok-propose_all-in-Ok-clause-found : goal.returns-in_ok-propose_all-in-Ok-clause-found
returns-in_ok-propose_all-in-Ok-clause-found g c =
    found_more c.args.rules.now (slice_index c.args.numbers.now c.args.place) c.index-rules-rule.result c.requires.rule c.index-rules-rule.is c.args.numbers.now
    c.args.place refl c.args.query.now _ _ _ c.requires.before c.in-Ok.ensures.steps c.in_ok-propose_all-in-Ok.ensures.proposed

pub returns-in-Err-Wide-clause-found : goal.returns-in-Err-Wide-clause-found
returns-in-Err-Wide-clause-found g c =
    wide_step c.args.rules.now (slice_index c.args.numbers.now c.args.place) c.index-rules-rule.result c.requires.rule c.index-rules-rule.is c.args.query.now
    c.in-Err-Wide.count (subst (λ (f : StepFault). IsStepFault c.args.query.now c.index-rules-rule.result f) c.in-Err-Wide.field-0-is c.in-Err-Wide.ensures.steps)
