use Rattle.std.proofs.Common.{◌≡◌, drop}
use Rattle.ucq_reader.specs.Meaning.{has_variable}
use Rattle.ucq_reader.specs.View.{atom_view}
use Rattle.ucq_reader.proofs.Scans.{among_terms}
use Rattle.ucq_reader.proofs.faults.has_variable.Given as goal

abbrev pub invariant-loop-term : goal.invariant-loop-term
invariant-loop-term l = has_variable l.variable (atom_view l.text l.atom) ≡ among_terms l.text l.variable (drop l.term-index l.term-items)
