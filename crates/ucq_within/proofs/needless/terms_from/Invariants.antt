use Rattle.std.proofs.Common.{◌≡◌, map, take}
use Rattle.ucq_terms.specs.declared.Term.TheVariants.{Variable}
use Rattle.ucq_within.proofs.needless.terms_from.Given as goal

abbrev pub invariant-loop-variable : goal.invariant-loop-variable
invariant-loop-variable l = l.terms.items ≡ map Variable (take l.variable-index l.variables)
