use Rattle.ucq_print.specs.Compared.{minimal_line, within_line}
use Rattle.ucq_run.specs.Compared.{compared_lines}
use Rattle.ucq_run.proofs.Comparing.{comparison_line, last_line, line_stands}
use Rattle.ucq_run.proofs.compared.ComparedTextText.line.Goals as goal

pub returns-in-Some : goal.returns-in-Some
returns-in-Some c =
    let t = c.args.self.now in
    let all = t.compared.now.told.items in
    let told = c.in-Some.comparison.now in
    let found = rw c.deref.ensures.value at c.in-Some.ensures.lookup in
    line_stands (compared_lines t.names.now t.number all t.compared.now.minimal) c.args.place (within_line told.query t.number told.told) c.within_line.result
    (comparison_line t.names.now t.number all t.compared.now.minimal c.args.place told found.3.0 found.1) c.within_line.ensures

pub returns-in-None : goal.returns-in-None
returns-in-None c =
    let t = c.args.self.now in
    let all = t.compared.now.told.items in
    let past = rw c.deref.ensures.value at c.in-None.ensures.lookup in
    line_stands (compared_lines t.names.now t.number all t.compared.now.minimal) c.args.place (minimal_line t.names.now t.compared.now.minimal) c.minimal_line.result
    (last_line t.names.now t.number all t.compared.now.minimal c.args.place past.3 c.requires) c.minimal_line.ensures
