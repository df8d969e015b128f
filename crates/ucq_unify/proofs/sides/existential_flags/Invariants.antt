use Rattle.ucq_unify.specs.inner.Sides.{HasFlags}
use Rattle.ucq_unify.proofs.sides.existential_flags.Given as goal

abbrev pub invariant-loop-variable : goal.invariant-loop-variable
invariant-loop-variable l = HasFlags l.rule l.variable l.flags.items
