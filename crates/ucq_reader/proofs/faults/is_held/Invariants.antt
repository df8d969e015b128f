use Rattle.std.proofs.Common.{◌≡◌, drop}
use Rattle.std.specs.List.{list_any}
use Rattle.ucq_reader.specs.Meaning.{listed, has_variable}
use Rattle.ucq_reader.specs.View.{atoms_view}
use Rattle.ucq_reader.proofs.Scans.{among_atoms}
use Rattle.ucq_reader.proofs.faults.is_held.Given as goal

abbrev pub invariant-loop-atom : goal.invariant-loop-atom
invariant-loop-atom l = list_any (has_variable l.variable) (listed (atoms_view l.text l.fn.atoms)) ≡ among_atoms l.text l.variable (drop l.atom-index l.atom-items)
