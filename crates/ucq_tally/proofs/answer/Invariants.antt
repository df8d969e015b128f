use Rattle.std.proofs.Common.{length, ◌≤◌}
use Rattle.ucq_terms.specs.declared.TheConstants.{RULES}
use Rattle.ucq_tally.proofs.answer.Given as goal

abbrev pub invariant-loop-asked : goal.invariant-loop-asked
invariant-loop-asked l = length l.rules.items ≤ RULES
