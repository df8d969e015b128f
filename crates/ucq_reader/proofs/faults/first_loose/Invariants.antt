use Rattle.std.proofs.Common.{◌≡◌, map, drop}
use Rattle.ucq_reader.specs.Meaning.{listed, first_loose}
use Rattle.ucq_reader.specs.View.{atoms_view, term_view}
use Rattle.ucq_reader.proofs.Scans.{loose_from}
use Rattle.ucq_reader.proofs.faults.first_loose.Given as goal

abbrev pub invariant-loop-place : goal.invariant-loop-place
invariant-loop-place l = first_loose (listed (atoms_view l.text l.fn.atoms)) (map (term_view l.text) l.answers) ≡ loose_from (listed (atoms_view l.text l.fn.atoms)) l.text l.place (drop l.place l.answers)
