use Rattle.std.proofs.Common.{List, subst}
use Rattle.std.proofs.lemmas.Result.{IfOk-weaker}
use Rattle.ucq_terms.specs.Syntax.{Atom}
use Rattle.ucq_sql.specs.Laws.{AreSmall}
use Rattle.ucq_sql.proofs.Printed.{stored_are_printed}
use Rattle.ucq_sql.proofs.selects.push_select.Goals as goal

pub returns-clause-printed : goal.returns-clause-printed
returns-clause-printed c =
    let small = subst (λ (l : List Atom). AreSmall l) c.atoms.ensures.atoms c.in_ok-push_from.ensures.small in
    IfOk-weaker c.push_conditions.result _ _ (λ _ _. stored_are_printed c.args.names.now c.args.query.now c.atoms.ensures.stored small) c.push_conditions.ensures
