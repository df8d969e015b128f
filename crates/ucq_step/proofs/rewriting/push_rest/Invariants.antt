use Rattle.std.proofs.Common.{◌≡◌, ◌++◌, take}
use Rattle.ucq_terms.specs.Rewriting.{atoms_named}
use Rattle.ucq_step.specs.inner.Building.{side_name, left_out, pairs_at}
use Rattle.ucq_step.specs.declared.rewriting.Side.TheVariants.{OfQuery}
use Rattle.ucq_step.proofs.rewriting.push_rest.Given as goal

abbrev pub invariant-loop-place : goal.invariant-loop-place
invariant-loop-place l =
    l.atoms.items ≡ l.initial.atoms.items ++ atoms_named (side_name l.joined OfQuery) (left_out (pairs_at l.pieces l.joined.members) (take l.place l.query.atoms))
