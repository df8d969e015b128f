use Rattle.std.proofs.Common.{false, refl}
use Rattle.ucq_outside.specs.Taken.{change_of}
use Rattle.ucq_print.specs.Compared.{rule_line}
use Rattle.ucq_print.specs.declared.compared.Judged.TheVariants.{Skipped}
use Rattle.ucq_run.specs.Compared.{RuleAsked}
use Rattle.ucq_run.specs.Parts.{judged}
use Rattle.ucq_run.proofs.Printing.{prints_so}
use Rattle.ucq_run.proofs.judged.print_skipped.Goals as goal

pub returns-clause-prints : goal.returns-clause-prints
returns-clause-prints g c = λ rules wide.
    let taken = g.K.Sink.taken in
    let faults = g.K.Sink.faults in
    let number = c.args.number in
    let r : RuleAsked = record { names = c.args.shared.now.names; rules = rules; number = number; budget = c.args.shared.now.budget } in
    prints_so (judged r)
    (change_of (taken c.args.out.now) (taken c.write_made-wrote.new.sink) (faults c.args.out.now) (faults c.write_made-wrote.new.sink)) (rule_line number Skipped) false
    c.write_made-wrote.result c.written.result (record { told = Skipped; judged = wide; printed = refl })
    (c.write_made-wrote.ensures.written (rule_line number Skipped) c.rule_line.ensures) c.written.ensures
