use Rattle.ucq_reader.specs.inner.Making.{HasPairs}
use Rattle.ucq_reader.proofs.made.Parts.push_facts.Given as goal

abbrev pub invariant-loop-i : goal.invariant-loop-i
invariant-loop-i l = HasPairs l.n l.i l.self
