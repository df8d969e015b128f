use Rattle.std.proofs.Common.{take}
use Rattle.ucq_eval.specs.inner.Join.{TellsTuple}
use Rattle.ucq_eval.proofs.join.read.Given as goal

abbrev pub invariant-loop-i : goal.invariant-loop-i
invariant-loop-i l = TellsTuple l.bindings (take l.i l.terms) (take l.i l.tuple)
