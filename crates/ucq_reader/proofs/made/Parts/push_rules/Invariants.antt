use Rattle.ucq_reader.specs.inner.Making.{HasChain}
use Rattle.ucq_reader.proofs.made.Parts.push_rules.Given as goal

abbrev pub invariant-loop-i : goal.invariant-loop-i
invariant-loop-i l = HasChain l.i l.self
