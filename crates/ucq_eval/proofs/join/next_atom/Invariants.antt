use Rattle.ucq_eval.specs.inner.Join.{IsChoice}
use Rattle.ucq_eval.proofs.join.next_atom.Given as goal

abbrev pub invariant-loop-i : goal.invariant-loop-i
invariant-loop-i l = IsChoice l.bindings l.facts l.atoms l.places l.best l.fewest
