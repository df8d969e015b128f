use Rattle.std.proofs.Common.{◌≡◌, ◌∙◌, ◌++◌, arith, refl, sym}
use Rattle.std.specs.Option.{is_some}
use Rattle.ucq_outside.specs.Taken.{change_of}
use Rattle.ucq_print.specs.Texts.{lines_text}
use Rattle.ucq_run.specs.Compared.{compared_lines}
use Rattle.ucq_run.specs.Parts.{compared}
use Rattle.ucq_run.specs.inner.Request.{question_in}
use Rattle.ucq_run.specs.inner.Solved.{solved_text}
use Rattle.ucq_run.proofs.Comparing.{compared_is_told}
use Rattle.ucq_run.proofs.Printing.{IsToPrint, is_cut_as_read, prints_so}
use Rattle.ucq_run.proofs.parts.print_compared.Goals as goal

pub returns-clause-prints : goal.returns-clause-prints
returns-clause-prints g c = λ facts about.
    let taken = g.K.Sink.taken in
    let faults = g.K.Sink.faults in
    let header = c.args.header.now in
    let a = c.args.shared.now in
    let s = c.args.solved.now in
    let number = c.args.number in
    let queries = c.args.queries.now in
    let found = c.in-Ok.compared in
    let lines = lines_text (compared_lines a.names number found.told.items found.minimal) in
    let out = change_of (taken c.args.out.now) (taken c.write_compared-wrote.new.out) (faults c.args.out.now) (faults c.write_compared-wrote.new.out) in
    let cut = c.is_some-is_cut.result in
    let is : is_some s.store.cut ≡ cut = is_cut_as_read s.store c.cut.result (λ read. read.now) c.cut.ensures.cut ∙ sym c.is_some-is_cut.ensures in
    let p : IsToPrint a s = record {
      within = c.requires.within;
      held = c.requires.held;
      solved = c.requires.solved;
      lawful = c.cut.ensures.lawful;
      few = omega (arith, c.len.ensures.few, c.len.ensures.len);
    } in
    let says =
    compared_is_told c.answers_are_chase_answers.ensures c.cut_listing.ensures c.enough_budget.ensures a s facts number queries found cut p about is c.in-Ok.ensures in
    prints_so (compared header (question_in a s.store.problem facts) number queries) out (header ++ (solved_text a s ++ lines)) cut c.write_compared-wrote.result c.written.result
    (solved_text a s, lines, says, refl) c.write_compared-wrote.ensures.written (rw c.ended.ensures at c.written.ensures)
