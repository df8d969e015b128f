use Rattle.ucq_outside.specs.Taken.{change_of}
use Rattle.ucq_run.proofs.Turns.{AreDone}
use Rattle.ucq_run.proofs.sections.print_all_alone.Given as goal

abbrev pub invariant-loop-number : goal.invariant-loop-number
invariant-loop-number g l =
    AreDone l.shared l.initial.rules.items l.queries l.number l.rules.items l.cut
    (change_of (g.K.Sink.taken l.initial.out) (g.K.Sink.taken l.out) (g.K.Sink.faults l.initial.out) (g.K.Sink.faults l.out))
