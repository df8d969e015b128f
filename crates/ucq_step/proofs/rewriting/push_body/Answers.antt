use Rattle.std.proofs.Common.{sym, Contains, subst}
use Rattle.std.proofs.lemmas.List.Elements.{Contains-get_or}
use Rattle.ucq_terms.specs.declared.Term.TheVariants.{Variable}
use Rattle.ucq_terms.specs.Syntax.{Atom}
use Rattle.ucq_terms.proofs.Subsets.{OccursIn-from_atom}
use Rattle.ucq_step.proofs.rewriting.push_body.Goals as goal

pub named_atom-requires-clause-low : goal.named_atom-requires-clause-low
named_atom-requires-clause-low c = λ v i.
    let a = c.atom-item.result in
    let here : Contains c.args.body.now a =
    subst (λ (b : Atom). Contains c.args.body.now b) (sym c.atom-item.is) (Contains-get_or c.args.body.now c.loop-atom.atom-index a c.loop-atom-test.true) in
    c.requires.low v (OccursIn-from_atom c.args.body.now (Variable v) a here i)
