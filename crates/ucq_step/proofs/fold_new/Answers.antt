use Rattle.ucq_step.proofs.Cores.{AreMore-none, IsCoreOf-itself}
use Rattle.ucq_step.proofs.fold_new.Goals as goal

pub returns-then-not-may_fold-clause-more : goal.returns-then-not-may_fold-clause-more
returns-then-not-may_fold-clause-more c = AreMore-none c.args.forms.now c.args.rewriting.now

pub returns-then-not-may_fold-clause-core : goal.returns-then-not-may_fold-clause-core
returns-then-not-may_fold-clause-core c = λ _. IsCoreOf-itself c.args.rewriting.now (c.may_fold.ensures.core c.if-not-may_fold.true)
