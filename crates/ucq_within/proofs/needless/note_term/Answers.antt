use Rattle.std.proofs.Common.{◌∷◌, [], refl, sym, ap, ◌∙◌}
use Rattle.ucq_terms.specs.declared.Term.{Term}
use Rattle.ucq_terms.specs.declared.Term.TheVariants.{Variable}
use Rattle.ucq_terms.specs.Syntax.{OccursIn}
use Rattle.ucq_within.specs.inner.Frontier.{with_frontier}
use Rattle.ucq_within.proofs.Collected.{noted, passed}
use Rattle.ucq_within.proofs.needless.note_term.Goals as goal

pub returns-in_ok-insert : goal.returns-in_ok-insert
returns-in_ok-insert c =
    let body = c.args.body.now in
    let order = c.args.frontier.now.keys in
    let v = c.in-Variable.variable in
    let o : OccursIn body (Variable v) = c.if-occurs.ensures.0 refl in
    c.in_ok-insert.ensures.keys ∙ sym (ap (λ (t : Term). with_frontier body order (t ∷ [])) c.in-Variable.is ∙ noted body order v o)

pub returns-else-occurs : goal.returns-else-occurs
returns-else-occurs c =
    let body = c.args.body.now in
    let order = c.args.frontier.now.keys in
    let v = c.in-Variable.variable in
    let out : ¬ OccursIn body (Variable v) = λ o. let yes = c.if-occurs.ensures.1 o in absurd cc in
    sym (ap (λ (t : Term). with_frontier body order (t ∷ [])) c.in-Variable.is ∙ passed body order v out)
