use Rattle.std.proofs.Common.{◌≡◌, map, take}
use Rattle.ucq_terms.specs.Unifier.{atom_at}
use Rattle.ucq_fold.proofs.normal.atoms_in_order.Given as goal

abbrev pub invariant-loop-place : goal.invariant-loop-place
invariant-loop-place l = l.arranged.items ≡ map (atom_at l.atoms) (take l.place-index l.order)
