use Rattle.std.proofs.Common.{Contains, subst}
use Rattle.std.proofs.lemmas.List.Elements.{Contains-get_or}
use Rattle.ucq_terms.specs.declared.Term.{Term}
use Rattle.ucq_terms.specs.declared.Term.TheVariants.{Constant}
use Rattle.ucq_step.proofs.rewriting.named_terms.Goals as goal

pub named_term-requires-clause-low : goal.named_term-requires-clause-low
named_term-requires-clause-low c = λ v e.
    c.requires.low v
    (subst (λ (t : Term). Contains c.args.terms.now t) e (Contains-get_or c.args.terms.now c.loop-term.term-index (Constant 0) c.loop-term-test.true))
