use Rattle.std.proofs.Common.{◌≤◌, take}
use Rattle.ucq_outside.specs.Taken.{change_of, TookAll}
use Rattle.ucq_run.specs.inner.Written.{row_texts}
use Rattle.ucq_run.proofs.finished.write_live.Given as goal

abbrev pub invariant-loop-row : goal.invariant-loop-row
invariant-loop-row g l = record {
  taken : TookAll (change_of (g.K.Sink.taken l.initial.sink) (g.K.Sink.taken l.sink) (g.K.Sink.faults l.initial.sink) (g.K.Sink.faults l.sink)) (row_texts l.names (take l.row (g.R.Rows.value l.rows).rows));
  later : g.K.Sink.faults l.initial.sink ≤ g.K.Sink.faults l.sink;
}
