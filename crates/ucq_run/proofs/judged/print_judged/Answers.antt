use Rattle.std.proofs.Common.{◌∙◌, ap, subst}
use Rattle.ucq_within.specs.Containment.{TellsWithin}
use Rattle.ucq_run.specs.Compared.{RuleAsked}
use Rattle.ucq_run.specs.Parts.{judged}
use Rattle.ucq_run.specs.Printed.{IsWrittenAs, ended}
use Rattle.ucq_run.specs.inner.Comparing.{is_open, judged_text}
use Rattle.ucq_run.proofs.Judging.{IsOfHead, judged_is_told}
use Rattle.ucq_run.proofs.Printing.{prints_so}
use Rattle.ucq_run.proofs.judged.print_judged.Goals as goal

pub returns-clause-prints : goal.returns-clause-prints
returns-clause-prints g c = λ all_rules small of_head asked.
    let a = c.args.shared.now in
    let r : RuleAsked = record { names = a.names; rules = all_rules; number = c.args.number; budget = a.budget } in
    let s = c.in-Ok.store in
    let w = c.in-Ok-contained.answer in
    let problem = rw c.in-Ok.is at of_head in
    let has_ended = rw c.in-Ok.is at c.requires.ended in
    let held = rw c.in-Ok.is at c.requires.held in
    let of : IsOfHead r s = record { problem = problem; budget = has_ended.1; lawful = c.cut.ensures.lawful; held = held } in
    let tells = subst (λ q. TellsWithin s q w) asked c.in-Ok-contained.ensures in
    let says = judged_is_told c.cut_listing.ensures c.enough_budget.ensures c.follows_is_containment.ensures r s w small of tells in
    prints_so (judged r) _ (judged_text a.names c.args.number w s) (is_open w) c.write_judged-wrote.result c.written.result says c.write_judged-wrote.ensures.written
    (subst (λ whole. IsWrittenAs c.write_judged-wrote.result whole c.written.result) (c.ended.ensures ∙ ap ended c.is_open.ensures) c.written.ensures)
