use Rattle.std.proofs.Common.{List, Contains, subst}
use Rattle.ucq_terms.specs.declared.Term.{Term}
use Rattle.ucq_terms.specs.declared.Term.TheVariants.{Variable}
use Rattle.ucq_step.proofs.rewriting.named_atom.Goals as goal

pub named_terms-requires-clause-low : goal.named_terms-requires-clause-low
named_terms-requires-clause-low c = λ v i. c.requires.low v (subst (λ (ts : List Term). Contains ts (Variable v)) c.terms.ensures.terms i)
