use Rattle.std.proofs.Common.{◌≤◌, take}
use Rattle.ucq_outside.specs.Taken.{change_of, TookAll}
use Rattle.ucq_print.specs.Texts.{lines_text}
use Rattle.ucq_run.proofs.writing.write_text.Given as goal

abbrev pub invariant-loop-place : goal.invariant-loop-place
invariant-loop-place g l = record {
  taken : TookAll (change_of (g.K.Sink.taken l.initial.sink) (g.K.Sink.taken l.sink) (g.K.Sink.faults l.initial.sink) (g.K.Sink.faults l.sink)) (lines_text (take l.place (g.T.Text.lines l.text)));
  later : g.K.Sink.faults l.initial.sink ≤ g.K.Sink.faults l.sink;
}
