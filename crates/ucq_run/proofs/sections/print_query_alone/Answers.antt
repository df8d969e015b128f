use Rattle.std.proofs.Common.{length, refl, subst, ap, ◌≡◌, ◌∙◌}
use Rattle.ucq_outside.specs.Taken.{change_of}
use Rattle.ucq_reader.specs.declared.input.Asked.{Asked}
use Rattle.ucq_run.specs.Printed.{PrintsFor}
use Rattle.ucq_run.specs.Parts.{header_of}
use Rattle.ucq_run.specs.inner.Request.{problem_with, question_for, section_with}
use Rattle.ucq_run.proofs.InTurn.{asked_is_held, held_of, query_of_number, same_section, solved_of}
use Rattle.ucq_run.proofs.Turns.{alone_is_one}
use Rattle.ucq_run.proofs.sections.print_query_alone.Goals as goal

pub print_solved-outcome-requires-clause-held : goal.print_solved-outcome-requires-clause-held
print_solved-outcome-requires-clause-held g c =
    let s = c.args.shared.now in
    let rules = c.args.rules.items in
    let asked = c.index-queries-number.result in
    let problem : c.new-problem.result ≡ problem_with rules asked.query = c.new-problem.ensures ∙ ap (problem_with rules) c.in-Ok-copy.ensures in
    held_of s (length s.names) c.new-problem.result (problem_with rules asked.query) c.solve_alone-solved.result c.solve_alone-solved.ensures problem
    (asked_is_held (length s.names) rules c.args.queries.now c.args.number asked c.requires.held c.requires.number c.index-queries-number.is)

pub returns-clause-prints : goal.returns-clause-prints
returns-clause-prints g c = λ asked facts at about.
    let s = c.args.shared.now in
    let rules = c.args.rules.items in
    let all = c.args.queries.now in
    let number = c.args.number in
    let found = c.index-queries-number.result in
    let problem : c.new-problem.result ≡ problem_with rules found.query = c.new-problem.ensures ∙ ap (problem_with rules) c.in-Ok-copy.ensures in
    let header = c.as_slice.ensures.value ∙ c.in-Ok.ensures all (alone_is_one (length all) all refl) in
    let out =
    change_of (g.K.Sink.taken c.args.out.now) (g.K.Sink.taken c.print_solved-outcome.new.out) (g.K.Sink.faults c.args.out.now)
    (g.K.Sink.faults c.print_solved-outcome.new.out) in
    let o = c.print_solved-outcome.result in
    subst (λ (a : Asked). PrintsFor (section_with s.mode (header_of all number a) (question_for s rules facts a.query) number all) out o) (query_of_number all number found asked c.index-queries-number.is at)
    (same_section s c.as_slice.result.now (header_of all number found) facts (problem_with rules found.query) (problem_with rules found.query) number all out o header refl
    (c.print_solved-outcome.ensures.prints (problem_with rules found.query) facts
    (solved_of s c.new-problem.result (problem_with rules found.query) c.solve_alone-solved.result c.solve_alone-solved.ensures problem) about))
