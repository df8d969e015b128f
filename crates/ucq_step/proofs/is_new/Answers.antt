use Rattle.ucq_step.proofs.Cores.{AreMore-kept, HasEquivalent-held}
use Rattle.ucq_step.proofs.is_new.Goals as goal

pub returns-clause-more : goal.returns-clause-more
returns-clause-more c = AreMore-kept c.args.forms.now c.keep.new.self c.args.rewriting.now c.in_ok-form.form c.in_ok-form.ensures c.in_ok-is_new.ensures.kept

pub returns-clause-held : goal.returns-clause-held
returns-clause-held c = λ e. HasEquivalent-held c.args.forms.now c.args.rewriting.now c.in_ok-form.form c.in_ok-form.ensures (c.in_ok-is_new.ensures.held e)
