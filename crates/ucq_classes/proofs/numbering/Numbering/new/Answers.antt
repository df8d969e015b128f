use Rattle.std.proofs.Common.{List, subst, sym, inl}
use Rattle.ucq_terms.specs.declared.Term.TheVariants.{Constant, Variable}
use Rattle.ucq_terms.specs.Syntax.{Atom, OccursIn}
use Rattle.ucq_classes.proofs.Numbers.{query_numbered}
use Rattle.ucq_classes.proofs.numbering.Numbering.new.Goals as goal

pub variable_bound-variables-requires : goal.variable_bound-variables-requires
variable_bound-variables-requires c = λ v o.
    c.atoms.ensures.stored.variables v (inl (subst (λ (xs : List Atom). OccursIn xs (Variable v)) c.atoms.ensures.atoms o))

pub returns-clause-query : goal.returns-clause-query
returns-clause-query c = query_numbered _ c.args.query.now
    (λ d o. c.in_ok-note_atoms.ensures.noted d (subst (λ (xs : List Atom). OccursIn xs (Constant d)) (sym c.atoms-2.ensures.atoms) o))
    (λ v o. c.variable_bound-variables.ensures.covers v (subst (λ (xs : List Atom). OccursIn xs (Variable v)) (sym c.atoms.ensures.atoms) o))
