use Rattle.std.proofs.Common.{length, ◌-◌, ◌≡◌, ◌≤◌, ◌++◌, ℕ, List, take}
use Rattle.std.specs.Prelude.{Some, IfSome}
use Rattle.ucq_run.proofs.writing.write_line.Given as goal

abbrev pub invariant-loop-done : goal.invariant-loop-done
invariant-loop-done g l = record {
  taken : IfSome (g.K.Sink.taken l.sink) (λ bytes. (old : List ℕ) × (g.K.Sink.taken l.initial.sink ≡ Some old) × (bytes ≡ old ++ take l.done l.line));
  later : g.K.Sink.faults l.initial.sink ≤ g.K.Sink.faults l.sink;
  within : l.done ≤ length l.line;
}

abbrev pub decreases-loop-done : goal.decreases-loop-done
decreases-loop-done g l = length l.line - l.done
