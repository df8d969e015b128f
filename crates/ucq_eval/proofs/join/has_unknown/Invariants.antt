use Rattle.std.proofs.Common.{take}
use Rattle.ucq_eval.specs.inner.Join.{HasUnknown}
use Rattle.ucq_eval.proofs.join.has_unknown.Given as goal

abbrev pub invariant-loop-term : goal.invariant-loop-term
invariant-loop-term l = HasUnknown l.bindings (take l.term-index l.terms) → ⊥
