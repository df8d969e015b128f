use Rattle.std.proofs.Common.{◌≡◌, ℕ, List, map, drop}
use Rattle.ucq_reader.specs.Meaning.{arity, first_above, listed}
use Rattle.ucq_reader.specs.View.{atoms_view}
use Rattle.ucq_reader.proofs.Scans.{wide_in}
use Rattle.ucq_reader.proofs.faults.wide_atom.Given as goal

abbrev pub invariant-loop-atom : goal.invariant-loop-atom
invariant-loop-atom l = (text : List ℕ) → first_above 16 (map arity (listed (atoms_view text l.fn.atoms))) ≡ wide_in text (drop l.atom-index l.atom-items)
