use Rattle.ucq_hom.proofs.Noted.{IsLevelSubset-left, IsLevelSubset-right}
use Rattle.ucq_hom.proofs.levels.union.Goals as goal

pub returns-clause-left : goal.returns-clause-left
returns-clause-left c = IsLevelSubset-left c.args.a c.args.b

pub returns-clause-right : goal.returns-clause-right
returns-clause-right c = IsLevelSubset-right c.args.a c.args.b
