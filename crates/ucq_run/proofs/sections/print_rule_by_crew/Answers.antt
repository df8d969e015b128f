use Rattle.std.proofs.Common.{ℕ, ◌<◌, All, List, length, subst, sym}
use Rattle.std.proofs.lemmas.List.Elements.{All-get_or}
use Rattle.ucq_terms.specs.Syntax.{Rule}
use Rattle.ucq_terms.specs.Rewriting.{rule_at}
use Rattle.ucq_chase.specs.Names.{IsHeldRule}
use Rattle.ucq_outside.specs.Taken.{change_of}
use Rattle.ucq_run.specs.Parts.{judged_of}
use Rattle.ucq_run.specs.Printed.{PrintsFor}
use Rattle.ucq_run.proofs.InTurn.{All-remove, rule_of_number}
use Rattle.ucq_run.proofs.PartTexts.{memory_ends}
use Rattle.ucq_run.proofs.sections.print_rule_by_crew.Goals.{in-Ok, in-Err}
use Rattle.ucq_run.proofs.sections.print_rule_by_crew.Goals as goal

pub judge_by_crew-outcome-requires-clause-held : goal.judge_by_crew-outcome-requires-clause-held
judge_by_crew-outcome-requires-clause-held g c = λ κs within.
    let count = length c.args.shared.now.names in
    let inside : c.args.number < length c.args.rules.items = subst (λ (n : ℕ). c.args.number < n) c.args.rules.ok.0 c.requires.number in
    subst (IsHeldRule count) (sym c.remove-rule.ensures.value) (All-get_or (IsHeldRule count) c.args.rules.items c.args.number c.remove-rule.result inside c.requires.held)

pub judge_by_crew-outcome-requires-clause-held_others : goal.judge_by_crew-outcome-requires-clause-held_others
judge_by_crew-outcome-requires-clause-held_others g c = λ κs within.
    let count = length c.args.shared.now.names in
    subst (λ (rs : List Rule). All (IsHeldRule count) rs) (sym c.remove-rule.ensures.items) (All-remove (IsHeldRule count) c.args.rules.items c.args.number c.requires.held)

pub returns-clause-prints : goal.returns-clause-prints
returns-clause-prints g c =
    let rules = c.args.rules.items in
    let number = c.args.number in
    let part = judged_of c.args.shared.now.names rules c.args.shared.now.budget (number, rule_at rules number) in
    let out =
    change_of (g.K.Sink.taken c.args.out.now) (g.K.Sink.taken c.judge_by_crew-outcome.new.out) (g.K.Sink.faults c.args.out.now)
    (g.K.Sink.faults c.judge_by_crew-outcome.new.out) in
    let inside : number < length rules = subst (λ (n : ℕ). number < n) c.args.rules.ok.0 c.requires.number in
    let printed : PrintsFor part out c.judge_by_crew-outcome.result.0 =
    c.judge_by_crew-outcome.ensures.prints rules (rule_of_number rules number c.remove-rule.result inside c.remove-rule.ensures.value) c.remove-rule.ensures.items in
    elim c.match-insert.branch [
      | in-Ok w ↦ rw (w.result-is) printed
      | in-Err w ↦ rw (w.result-is) (memory_ends part out c.judge_by_crew-outcome.result.0 printed)
    ]
