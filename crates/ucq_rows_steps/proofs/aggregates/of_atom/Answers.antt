use Rattle.std.proofs.Common.{List, subst}
use Rattle.ucq_terms.specs.declared.Term.TheVariants.{Variable}
use Rattle.ucq_terms.specs.Syntax.{Atom, OccursIn}
use Rattle.ucq_rows_steps.proofs.aggregates.of_atom.Goals as goal

pub of_query-requires : goal.of_query-requires
of_query-requires c =
    c.requires.low c.in-Variable.variable
    (subst (λ (atoms : List Atom). OccursIn atoms (Variable c.in-Variable.variable)) c.atoms.ensures.atoms c.in-Variable.ensures)
