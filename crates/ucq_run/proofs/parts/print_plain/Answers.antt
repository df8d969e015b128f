use Rattle.std.proofs.Common.{◌≡◌, ◌∙◌, ◌++◌, arith, refl, sym}
use Rattle.std.specs.Option.{is_some}
use Rattle.ucq_outside.specs.Taken.{change_of}
use Rattle.ucq_run.specs.Parts.{section}
use Rattle.ucq_run.specs.inner.Request.{question_in}
use Rattle.ucq_run.specs.inner.Solved.{solved_text}
use Rattle.ucq_run.proofs.Printing.{IsToPrint, is_cut_as_read, prints_so, solved_is_told}
use Rattle.ucq_run.proofs.parts.print_plain.Goals as goal

pub returns-clause-prints : goal.returns-clause-prints
returns-clause-prints g c = λ facts about.
    let taken = g.K.Sink.taken in
    let faults = g.K.Sink.faults in
    let header = c.args.header.now in
    let a = c.args.shared.now in
    let s = c.args.solved.now in
    let out = change_of (taken c.args.out.now) (taken c.write_solved-wrote.new.out) (faults c.args.out.now) (faults c.write_solved-wrote.new.out) in
    let cut = c.is_some-is_cut.result in
    let is : is_some s.store.cut ≡ cut = is_cut_as_read s.store c.cut.result (λ read. read.now) c.cut.ensures.cut ∙ sym c.is_some-is_cut.ensures in
    let p : IsToPrint a s = record {
      within = c.requires.within;
      held = c.requires.held;
      solved = c.requires.solved;
      lawful = c.cut.ensures.lawful;
      few = omega (arith, c.len.ensures.few, c.len.ensures.len);
    } in
    let says = solved_is_told c.answers_are_chase_answers.ensures c.cut_listing.ensures c.enough_budget.ensures a s facts cut p about is in
    prints_so (section header (question_in a s.store.problem facts)) out (header ++ solved_text a s) cut c.write_solved-wrote.result c.written.result
    (solved_text a s, says, refl) c.write_solved-wrote.ensures.written (rw c.ended.ensures at c.written.ensures)
