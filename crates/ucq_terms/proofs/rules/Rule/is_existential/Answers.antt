-- The second test decides, where the first is true.
use Rattle.ucq_terms.proofs.NumberedRules.{IsExistential-tested}
use Rattle.ucq_terms.proofs.rules.Rule.is_existential.Goals as goal

pub returns-then-occurs : goal.returns-then-occurs
returns-then-occurs c =
    IsExistential-tested c.args.self.now c.args.variable _ _ c.occurs.result c.occurs-then-occurs.result c.heads.ensures.heads c.body.ensures.body c.occurs.ensures
    c.occurs-then-occurs.ensures c.if-occurs.true
