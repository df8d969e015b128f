use Rattle.std.proofs.Common.{refl, subst}
use Rattle.std.specs.Prelude.{◌≡◌, IfOk}
use Rattle.ucq_outside.specs.Taken.{change_of}
use Rattle.ucq_run.proofs.InTurn.{same_section}
use Rattle.ucq_run.proofs.sections.print_solved.Goals as goal

pub returns-in-Ok-clause-prints : goal.returns-in-Ok-clause-prints
returns-in-Ok-clause-prints g c = λ problem facts same about.
    let out =
    change_of (g.K.Sink.taken c.args.out.now) (g.K.Sink.taken c.print_section.new.out) (g.K.Sink.faults c.args.out.now) (g.K.Sink.faults c.print_section.new.out) in
    let here = subst (λ r. IfOk r (λ s. s.store.problem ≡ problem)) c.in-Ok.is same in
    same_section c.args.shared.now c.args.header.now c.args.header.now facts c.in-Ok.solved.store.problem problem c.args.number c.args.queries.now out c.print_section.result refl here
    (c.print_section.ensures.prints facts about)
