use Rattle.ucq_step.proofs.Cores.{HaveCores-met, HasAddedCore-met, HaveCores-kept, HasAddedCore-kept}
use Rattle.ucq_step.proofs.add_core.Goals as goal

pub returns-then-not-branch-clause-have : goal.returns-then-not-branch-clause-have
returns-then-not-branch-clause-have c =
    HaveCores-met c.args.forms.now c.fold_new.new.forms c.args.cores.now c.args.rewriting c.requires.have c.in_ok-fold_new.ensures.more
    (c.in_ok-fold_new.ensures.held c.if-not-branch.true)

pub returns-then-not-branch-clause-added : goal.returns-then-not-branch-clause-added
returns-then-not-branch-clause-added c =
    HasAddedCore-met c.args.forms.now c.args.cores.now c.args.rewriting c.requires.have (c.in_ok-fold_new.ensures.held c.if-not-branch.true)

pub returns-clause-have : goal.returns-clause-have
returns-clause-have c =
    HaveCores-kept c.args.forms.now c.fold_new.new.forms c.args.cores.now c.keep.new.self c.args.rewriting c.fold_new.new.rewriting c.requires.have
    c.in_ok-fold_new.ensures.more (c.in_ok-fold_new.ensures.core c.if-not-branch.false) c.in_ok-keep.ensures.kept

pub returns-clause-added : goal.returns-clause-added
returns-clause-added c =
    HasAddedCore-kept c.args.cores.now c.keep.new.self c.args.rewriting c.fold_new.new.rewriting (c.in_ok-fold_new.ensures.core c.if-not-branch.false)
    c.in_ok-keep.ensures.kept
