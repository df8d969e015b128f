use Rattle.std.proofs.Common.{List, subst}
use Rattle.ucq_outside.specs.Taken.{change_of}
use Rattle.ucq_reader.specs.declared.input.Asked.{Asked}
use Rattle.ucq_run.specs.Printed.{PrintsParts}
use Rattle.ucq_run.specs.inner.Request.{parts_for}
use Rattle.ucq_run.proofs.sections.print_by_crew.Goals as goal

pub returns-clause-prints : goal.returns-clause-prints
returns-clause-prints g c = λ facts about.
    let asked = c.args.request in
    let out =
    change_of (g.K.Sink.taken c.args.out.now) (g.K.Sink.taken c.print_all_by_crew.new.out) (g.K.Sink.faults c.args.out.now)
    (g.K.Sink.faults c.print_all_by_crew.new.out) in
    subst (λ (queries : List Asked). PrintsParts (parts_for asked.shared asked.rules.items queries facts) out c.print_all_by_crew.result) c.as_slice.ensures.value
    (c.print_all_by_crew.ensures.prints facts about)
