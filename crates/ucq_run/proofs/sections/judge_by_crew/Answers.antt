use Rattle.std.proofs.Common.{◌≡◌, ◌∙◌, length, ap, ap₂, subst}
use Rattle.std.specs.Prelude.{List, Some}
use Rattle.std.specs.List.{remove}
use Rattle.ucq_terms.specs.Syntax.{Rule}
use Rattle.ucq_terms.specs.Rewriting.{rule_at}
use Rattle.ucq_within.specs.Needless.{AreRuleQueries, asked_of}
use Rattle.ucq_run.specs.Compared.{HasSmallFrontier}
use Rattle.ucq_run.specs.inner.Request.{problem_with}
use Rattle.ucq_run.proofs.Judging.{store_is_held, store_is_of}
use Rattle.ucq_run.proofs.sections.judge_by_crew.Goals as goal

pub print_judged-outcome-requires-clause-held : goal.print_judged-outcome-requires-clause-held
print_judged-outcome-requires-clause-held g c =
    let s = c.args.shared.now in
    let rule = c.args.rule.now in
    let others = c.args.others.items in
    let found : AreRuleQueries rule (Some (c.in-Ok-Some.head, c.in-Ok-Some.body)) = subst (AreRuleQueries rule) c.in-Ok-Some.field-0-is c.in-Ok-Some.ensures in
    let problem : c.new-problem.result ≡ problem_with others (asked_of rule rule.heads) = c.new-problem.ensures ∙ ap (problem_with others) found.1 in
    store_is_held (length s.names) c.new-problem.result others rule s.budget c.store_by_crew-store.result c.store_by_crew-store.ensures.problem problem c.requires.held_others c.requires.held

pub returns-in-Ok-Some-clause-prints : goal.returns-in-Ok-Some-clause-prints
returns-in-Ok-Some-clause-prints g c = λ rules rule_is others_is.
    let s = c.args.shared.now in
    let rule = c.args.rule.now in
    let others = c.args.others.items in
    let judged = rule_at rules c.args.number in
    let found : AreRuleQueries rule (Some (c.in-Ok-Some.head, c.in-Ok-Some.body)) = subst (AreRuleQueries rule) c.in-Ok-Some.field-0-is c.in-Ok-Some.ensures in
    let problem : c.new-problem.result ≡ problem_with (remove rules c.args.number) (asked_of judged judged.heads) =
    c.new-problem.ensures ∙ (ap (problem_with others) found.1 ∙ ap₂ (λ (os : List Rule) (r : Rule). problem_with os (asked_of r r.heads)) others_is rule_is) in
    c.print_judged-outcome.ensures.prints rules (subst HasSmallFrontier rule_is found.0)
    (store_is_of c.new-problem.result _ s.budget c.store_by_crew-store.result c.store_by_crew-store.ensures.problem problem)
    (found.2 ∙ ap (λ (r : Rule). asked_of r r.body) rule_is)
