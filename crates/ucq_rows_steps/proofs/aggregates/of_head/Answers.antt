use Rattle.std.proofs.Common.{List, subst}
use Rattle.ucq_terms.specs.declared.Term.TheVariants.{Variable}
use Rattle.ucq_terms.specs.Syntax.{Atom, OccursIn}
use Rattle.ucq_rows_steps.proofs.aggregates.of_head.Goals as goal

pub of_copy-requires-clause-variable : goal.of_copy-requires-clause-variable
of_copy-requires-clause-variable c =
    c.requires.low c.in-Variable.variable
    (subst (λ (atoms : List Atom). OccursIn atoms (Variable c.in-Variable.variable)) c.heads.ensures.heads c.in-Variable.ensures)
