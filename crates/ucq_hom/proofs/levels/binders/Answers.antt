use Rattle.std.proofs.Common.{subst, Contains}
use Rattle.std.proofs.lemmas.List.Elements.{Contains-get_or}
use Rattle.ucq_terms.specs.declared.Term.{Term}
use Rattle.ucq_terms.specs.declared.Term.TheVariants.{Constant}
use Rattle.ucq_hom.proofs.Noted.{HasLevelsOf-more}
use Rattle.ucq_hom.proofs.levels.binders.Goals as goal

pub with_binder-set-requires-clause-low : goal.with_binder-set-requires-clause-low
with_binder-set-requires-clause-low c = λ v e.
    c.requires.low.low v (subst (λ (t : Term). Contains c.args.terms.now t) e (Contains-get_or c.args.terms.now c.loop-i.i (Constant 0) c.loop-i-test.true))

pub loop-i-preserved : goal.loop-i-preserved
loop-i-preserved c = HasLevelsOf-more c.args.bindings.now c.args.levels.now c.loop-i.set c.with_binder-set.result c.args.terms.now c.loop-i.i (Constant 0) c.loop-i-test.true
    c.loop-i.invariant c.with_binder-set.ensures.added c.with_binder-set.ensures.kept
