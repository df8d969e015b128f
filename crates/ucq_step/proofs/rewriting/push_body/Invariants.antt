use Rattle.std.proofs.Common.{◌≡◌, ◌++◌, take}
use Rattle.ucq_terms.specs.Rewriting.{atoms_named}
use Rattle.ucq_step.specs.inner.Building.{side_name}
use Rattle.ucq_step.proofs.rewriting.push_body.Given as goal

abbrev pub invariant-loop-atom : goal.invariant-loop-atom
invariant-loop-atom l = l.atoms.items ≡ l.initial.atoms.items ++ atoms_named (side_name l.joined l.side) (take l.atom-index l.body)
